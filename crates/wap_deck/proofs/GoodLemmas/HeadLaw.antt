-- What nodes begin with, by their first marks.
use Rattle.std.proofs.Common.{◌≡◌, ℕ, ◌^◌, ◌%◌, Bool, true, false, List, [], ◌∷◌, Option}
use Rattle.std.proofs.Common.{Some, None, refl, sym, ap, subst, ◌∙◌, ◌*◌, bit_and, bit_or, arith}
use Rattle.std.specs.Prelude.{if◌then◌else◌, ◌==◌}
use Rattle.std.specs.Int.{bit_at}
use Rattle.std.proofs.lemmas.Bool.{eqb-true}
use Rattle.std.proofs.Math.Nat.{eq_of_mul-eq-mul_right, zero-mul}
use Rattle.std.proofs.lemmas.Nat.{pow_pos}
use Rattle.std.proofs.lemmas.Nat.Bits.{bit_at_or, bit_at-pow_same, bit_at_ones, and_pow}
use Rattle.wap_base.proofs.Choices.{some_same}
use Rattle.wap_base.specs.declared.name.Part.{Part}
use Rattle.wap_tokens.specs.declared.markup.codes.TheConstants.{LITERAL}
use Rattle.wap_tokens.specs.declared.markup.name.AttrName.{AttrName}
use Rattle.wap_tokens.specs.markup.Codes.{has_attributes, has_content}
use Rattle.wap_tokens.specs.markup.Tables.{Start, attr_start, is_same_attr}
use Rattle.wap_deck.specs.good.Readers.{◌>>=◌, first_of, is_end, all_of, Ends}
use Rattle.wap_deck.specs.good.inside.Nodes.{named_at, start_at, attr_at, attrs_begin}
use Rattle.wap_deck.specs.good.inside.Starts.{value_in}
use Rattle.wap_deck.specs.good.inside.Notes.{mark_place, lacks, HaveNames, LacksName, IsHead}
use Rattle.wap_deck.proofs.GoodLemmas.Opening.{all_nothing}
use Rattle.wap_deck.proofs.GoodLemmas.Ending.{attr_lists, ends_on, nothing_read}
use Rattle.wap_deck.proofs.GoodLemmas.Ending.{content_there, no_list_leaves}
use Rattle.wap_deck.proofs.GoodLemmas.Seen.{value_behind, value_end}

pub coded_start : (table bytes : List ℕ) (mark : ℕ) (rest : List ℕ) (start : Start)
    → first_of bytes ≡ Some (mark, rest) → (mark ≡ LITERAL → ⊥) → attr_start 0 mark ≡ Some start
    → start_at table bytes ≡ Some (start, rest)
unfolding start_at
coded_start table bytes mark rest start e isnt found =
    ap (λ (o : Option (ℕ × List ℕ)). o >>= λ x. if x.0 == LITERAL then named_at table x.1 else
    (attr_start 0 x.0 >>= λ start. Some (start, x.1))) e
    ∙ ap (λ (b : Bool). if b then named_at table rest else
    (attr_start 0 mark >>= λ start. Some (start, rest))) (other (mark == LITERAL) refl)
    ∙ ap
    (λ (o : Option Start). o >>= λ start. let w : Start × List ℕ = (start, rest) in Some w) found
  where
    other : (b : Bool) → (mark == LITERAL) ≡ b → (mark == LITERAL) ≡ false
    other true is = absurd (isnt (eqb-true mark LITERAL is))
    other false is = is

-- ---- marks

-- what more marks lack fewer lack too, and the name that is marked last is another
pub lacks_both : (names : ℕ) (found name : AttrName)
    → lacks (bit_or names (2 ^ mark_place found)) name ≡ true
    → (lacks names name ≡ true) × (is_same_attr found name ≡ false)
lacks_both names found name without =
    let place = mark_place name in
    let none : bit_at (bit_or names (2 ^ mark_place found)) place ≡ 0 = eqb-true _ 0 without in
    let either = bit_at_or names (2 ^ mark_place found) place in
    let fewer : bit_at names place ≡ 0 = grind (arith, none, either) in
    let last : bit_at (2 ^ mark_place found) place ≡ 0 = grind (arith, none, either) in
    (ap (λ (n : ℕ). n == 0) fewer, other (is_same_attr found name) refl last)
  where
    other : (b : Bool) → is_same_attr found name ≡ b
        → bit_at (2 ^ mark_place found) (mark_place name) ≡ 0 → is_same_attr found name ≡ false
    other true is last =
        let same : mark_place found ≡ mark_place name =
        ap (λ (n : ℕ). n % 16) (eqb-true _ _ is) in
        let one = bit_at-pow_same (mark_place found) in
        let zero = ap (bit_at (2 ^ mark_place found)) same ∙ last in
        absurd (cc (one, zero))
    other false is last = is

either : (x y : Bool) → (x ≡ true → y ≡ true) → (y ≡ true → x ≡ true) → x ≡ y
either true y to from = sym (to refl)
either false true to from = from refl
either false false to from = refl

-- a mark is looked for by its bit
pub looked_for : (names : ℕ) (name : AttrName)
    → (bit_and names (2 ^ mark_place name) == 0) ≡ lacks names name
looked_for names name =
    let place = mark_place name in
    let bit = bit_at names place in
    ap (λ (n : ℕ). n == 0) (and_pow names place)
    ∙ either (bit * 2 ^ place == 0) (bit == 0)
    (λ is. ap (λ (n : ℕ). n == 0) (eq_of_mul-eq-mul_right (2 ^ place) (pow_pos place) bit 0
    (eqb-true _ 0 is ∙ sym (zero-mul (2 ^ place)))))
    (λ is. ap (λ (n : ℕ). n * 2 ^ place == 0) (eqb-true _ 0 is)
    ∙ ap (λ (n : ℕ). n == 0) (zero-mul (2 ^ place)))

-- all marks lack no name
pub lacks_none : (name : AttrName) → lacks 65535 name ≡ true → ⊥
lacks_none name without =
    let one : bit_at 65535 (mark_place name) ≡ 1 =
    bit_at_ones 16 (mark_place name) (omega arith) in
    let zero : bit_at 65535 (mark_place name) ≡ 0 = eqb-true _ 0 without in
    absurd (cc (one, zero))

-- ---- what a mark tells

pub marked_all : (mark : ℕ) (rest : List ℕ) → IsHead (mark ∷ rest) 65535 0
marked_all mark rest = record {
  names = λ name without. absurd (lacks_none name without);
  content = λ some. absurd (omega arith);
  within = omega arith;
}

-- ---- names

-- these follow some attributes, whose names are marked
abbrev pub ArePassed : List ℕ → ℕ → List ℕ → Type 0
ArePassed bytes names rest =
    (table : List ℕ) (name : AttrName) → Ends (attr_at table) bytes → lacks names name ≡ true
    → Ends (attr_at table) rest × (value_in name (all_of (attr_at table) bytes).0
    ≡ value_in name (all_of (attr_at table) rest).0)

-- the attribute that bytes begin with has this name, and these follow it
abbrev pub IsNamed : List ℕ → AttrName → List ℕ → Type 0
IsNamed bytes name rest =
    (table : List ℕ) → Ends (attr_at table) bytes
    → (parts : List Part) × (attr_at table bytes ≡ Some ((name, parts), rest))

pub none_passed : (bytes : List ℕ) → ArePassed bytes 0 bytes
none_passed bytes = λ table name ends without. (ends, refl)

pub one_passed : (bytes : List ℕ) (names : ℕ) (rest : List ℕ) (found : AttrName)
    (behind : List ℕ) → ArePassed bytes names rest → IsNamed rest found behind
    → ArePassed bytes (bit_or names (2 ^ mark_place found)) behind
one_passed bytes names rest found behind are is = λ table name ends without.
    let both = lacks_both names found name without in
    let passed = are table name ends both.0 in
    let read = is table passed.0 in (
      ends_on (attr_at table) (attr_lists table) rest (found, read.0) behind read.1 passed.0,
      passed.1 ∙ value_behind table name rest found read.0 behind read.1 both.1,
    )

pub all_passed : (bytes : List ℕ) (names : ℕ) (rest : List ℕ) → ArePassed bytes names rest
    → is_end rest ≡ true → HaveNames bytes names
all_passed bytes names rest are over = λ table name ends without.
    (are table name ends without).1
    ∙ value_end table name rest (nothing_read (attr_at table) (attr_lists table) rest over)

attrs_are : (bytes : List ℕ) (mark : ℕ) (behind rest : List ℕ)
    → first_of bytes ≡ Some (mark, behind) → attrs_begin bytes ≡ Some rest
    → rest ≡ (if has_attributes mark then behind else [])
unfolding attrs_begin
attrs_are bytes mark behind rest e begin =
    some_same rest (if has_attributes mark then behind else []) (sym begin
    ∙ ap (λ (o : Option (ℕ × List ℕ)). o >>= λ x. Some (if has_attributes x.0 then x.1 else [])) e)

pub head_lacks : (bytes : List ℕ) (mark : ℕ) (behind : List ℕ) (names : ℕ)
    → first_of bytes ≡ Some (mark, behind) → has_attributes mark ≡ true → HaveNames behind names
    → (name : AttrName) → lacks names name ≡ true → LacksName bytes name
head_lacks bytes mark behind names e has have name without = λ table rest begin ends.
    let same : rest ≡ behind =
    attrs_are bytes mark behind rest e begin
    ∙ ap (λ (b : Bool). if b then behind else []) has in
    let P : List ℕ → Type 0 =
    λ l. Ends (attr_at table) l → value_in name (all_of (attr_at table) l).0 ≡ None in
    subst P (sym same) (λ ends. have table name ends without) ends

pub bare_lacks : (bytes : List ℕ) (mark : ℕ) (behind : List ℕ)
    → first_of bytes ≡ Some (mark, behind) → has_attributes mark ≡ false
    → (name : AttrName) → LacksName bytes name
bare_lacks bytes mark behind e has name = λ table rest begin ends.
    let same : rest ≡ [] =
    attrs_are bytes mark behind rest e begin
    ∙ ap (λ (b : Bool). if b then behind else []) has in
    ap (λ (l : List ℕ). value_in name (all_of (attr_at table) l).0) same
    ∙ ap (λ (r : List (AttrName × List Part) × List ℕ). value_in name r.0)
    (all_nothing (attr_at table))

no_attrs : (rest : List ℕ) → attrs_begin [] ≡ Some rest → ⊥
unfolding attrs_begin
no_attrs rest begin = absurd cc

pub nothing_lacks : (bytes : List ℕ) → first_of bytes ≡ None → (name : AttrName)
    → LacksName bytes name
nothing_lacks [] e asked = λ table rest begin ends. absurd (no_attrs rest begin)
nothing_lacks (byte ∷ bytes) e asked = absurd cc

-- ---- nodes without attributes

module _ (mark : ℕ) (rest : List ℕ) (none : has_attributes mark ≡ false) where
  pub bare_content : has_content mark ≡ true → IsHead (mark ∷ rest) 0 1
  bare_content has = record {
    names = λ name without. bare_lacks (mark ∷ rest) mark rest refl none name;
    content = λ some.
        content_there (mark ∷ rest) mark rest rest refl has
        (λ table. no_list_leaves (has_attributes mark) (attr_at table) rest none);
    within = omega arith;
  }

  pub bare_alone : IsHead (mark ∷ rest) 0 0
  bare_alone = record {
    names = λ name without. bare_lacks (mark ∷ rest) mark rest refl none name;
    content = λ some. absurd (omega arith);
    within = omega arith;
  }

pub nothing_known : (bytes : List ℕ) → first_of bytes ≡ None → IsHead bytes 0 0
nothing_known bytes e = record {
  names = λ name without. nothing_lacks bytes e name;
  content = λ some. absurd (omega arith);
  within = omega arith;
}

pub attrs_here : (bytes : List ℕ) (mark : ℕ) (rest : List ℕ) → first_of bytes ≡ Some (mark, rest)
    → has_attributes mark ≡ true → attrs_begin bytes ≡ Some rest
unfolding attrs_begin
attrs_here bytes mark rest e has =
    ap (λ (o : Option (ℕ × List ℕ)). o >>= λ x. Some (if has_attributes x.0 then x.1 else [])) e
    ∙ ap (λ (b : Bool). Some (if b then rest else [])) has
