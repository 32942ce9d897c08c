-- Two kinds of strings, those without U+0000 and those of characters besides: which texts, names of
-- variables and names of attributes are such.
use Rattle.std.proofs.Common.{◌≡◌, ℕ, zero, suc, ◌<◌, Bool, true, cond, leb, ltb, List}
use Rattle.std.proofs.Common.{[], ◌∷◌, Option, Some, None, refl, ap, inl, inr, arith, lt-ltb}
use Rattle.std.specs.Prelude.{◌&&◌, not}
use Rattle.std.specs.List.{list_all, AllByRecursion}
use Rattle.std.specs.Str.{all_scalars}
use Rattle.std.proofs.Math.Dec.{eqb-suc-zero}
use Rattle.std.proofs.lemmas.Bool.{cases_lt, and_from, and_parts}
use lib.Utf8.{scalar}
use Rattle.wap_base.proofs.NameLaws.{past-begins, past-continues}
use Rattle.wap_base.specs.Names.{is_name, begins_name, continues_name}
use Rattle.wap_tokens.specs.declared.markup.name.AttrName.{AttrName}
use Rattle.wap_tokens.specs.declared.markup.name.AttrName.TheVariants as attrs
use Rattle.wap_tokens.specs.markup.Strings.{is_not_zero}
use Rattle.wap_tokens.specs.markup.Tables.{name_rows, name_of_attr}
use Rattle.wap_tokens.specs.markup.Writing.{run_before, runs_of}
use Rattle.wap_wbxml.specs.spelling.Spellable.{HasNoZero, IsString}

-- ---- one character before a string

not_zero : (c : ℕ) → is_not_zero (suc c) ≡ true
not_zero c = ap not (eqb-suc-zero c)

string_more : (c : ℕ) (text : List ℕ) → is_not_zero c ≡ true → scalar c ≡ true → IsString text
    → IsString (c ∷ text)
string_more c text some one is = (
  and_from (is_not_zero c) (list_all is_not_zero text) some is.0,
  and_from (scalar c) (all_scalars text) one is.1,
)

-- ---- names of attributes, computed

name_fits : (attr : AttrName)
    → (list_all is_not_zero (name_of_attr attr) && all_scalars (name_of_attr attr)) ≡ true
unfolding name_of_attr name_rows
name_fits attrs.Align = refl
name_fits attr = refl

pub known_name : (attr : AttrName) → IsString (name_of_attr attr)
known_name attr =
    and_parts (list_all is_not_zero (name_of_attr attr)) (all_scalars (name_of_attr attr))
    (name_fits attr)

-- ---- names of variables, whose characters are ASCII

ascii_scalar : (c : ℕ) → c < 128 → scalar c ≡ true
ascii_scalar c ascii =
    ap (λ (b : Bool). cond b true (leb 57344 c && ltb c 1114112)) (lt-ltb c 55296 (omega arith))

continues_not_zero : (c : ℕ) → continues_name c ≡ true → is_not_zero c ≡ true
continues_not_zero zero is = absurd cc
continues_not_zero (suc c) is = not_zero c

begins_not_zero : (c : ℕ) → begins_name c ≡ true → is_not_zero c ≡ true
begins_not_zero zero is = absurd cc
begins_not_zero (suc c) is = not_zero c

continues_scalar : (c : ℕ) → continues_name c ≡ true → scalar c ≡ true
continues_scalar c is = elim (cases_lt c 128) [
  | inl ascii ↦ ascii_scalar c ascii
  | inr past ↦ absurd (cc (is, past-continues c past))
]

begins_scalar : (c : ℕ) → begins_name c ≡ true → scalar c ≡ true
begins_scalar c is = elim (cases_lt c 128) [
  | inl ascii ↦ ascii_scalar c ascii
  | inr past ↦ absurd (cc (is, past-begins c past))
]

rest_string : (cs : List ℕ) → list_all continues_name cs ≡ true → IsString cs
rest_string [] is = (refl, refl)
rest_string (c ∷ cs) is =
    let parts = and_parts (continues_name c) (list_all continues_name cs) is in
    string_more c cs (continues_not_zero c parts.0) (continues_scalar c parts.0)
    (rest_string cs parts.1)

pub name_string : (name : List ℕ) → is_name name ≡ true → IsString name
name_string [] is = absurd (cc is)
name_string (c ∷ cs) is =
    let parts = and_parts (begins_name c) (list_all continues_name cs) is in
    string_more c cs (begins_not_zero c parts.0) (begins_scalar c parts.0) (rest_string cs parts.1)

-- ---- kinds

-- what makes strings a kind of which all names are, and the strings of a text where its characters
-- are scalar values if Q holds
pub record AreKind (Is : List ℕ → Type 0) (Q : Type 0) : Type 0 where
  pub none : Is []
  pub more : (c : ℕ) (text : List ℕ) → (Q → scalar (suc c) ≡ true) → Is text → Is (suc c ∷ text)
  pub name : (name : List ℕ) → is_name name ≡ true → Is name
  pub known : (attr : AttrName) → Is (name_of_attr attr)

-- strings without U+0000, whatever their characters are
pub without_zero : AreKind HasNoZero ⊥
without_zero = record {
  none = refl;
  more = λ c text one fits.
      and_from (is_not_zero (suc c)) (list_all is_not_zero text) (not_zero c) fits;
  name = λ name is. (name_string name is).0;
  known = λ attr. (known_name attr).0;
}

-- strings of characters, which those of texts of characters are
pub of_characters : AreKind IsString (Unit {0})
of_characters = record {
  none = (refl, refl);
  more = λ c text one is. string_more (suc c) text (not_zero c) (one tt) is;
  name = name_string;
  known = known_name;
}

-- ---- the strings of a text

abbrev pub RunFits : (List ℕ → Type 0) → Option (List ℕ) → Type 0
RunFits Is None = Unit {0}
RunFits Is (Some text) = Is text

module _ (Is : List ℕ → Type 0) (Q : Type 0) (kind : AreKind Is Q) where
  run_before_fits : (c : ℕ) (runs : List (Option (List ℕ))) → (Q → scalar (suc c) ≡ true)
      → AllByRecursion (RunFits Is) runs → AllByRecursion (RunFits Is) (run_before (suc c) runs)
  run_before_fits c [] one fits = (kind.more c [] one kind.none, tt)
  run_before_fits c (None ∷ runs) one fits = (kind.more c [] one kind.none, fits)
  run_before_fits c (Some text ∷ runs) one fits = (kind.more c text one fits.0, fits.1)

  pub runs_fit : (text : List ℕ) → (Q → all_scalars text ≡ true)
      → AllByRecursion (RunFits Is) (runs_of text)
  runs_fit [] of = tt
  runs_fit (zero ∷ cs) of =
      (tt, runs_fit cs (λ q. (and_parts (scalar zero) (all_scalars cs) (of q)).1))
  runs_fit (suc c ∷ cs) of =
      run_before_fits c (runs_of cs)
      (λ q. (and_parts (scalar (suc c)) (all_scalars cs) (of q)).0)
      (runs_fit cs (λ q. (and_parts (scalar (suc c)) (all_scalars cs) (of q)).1))
