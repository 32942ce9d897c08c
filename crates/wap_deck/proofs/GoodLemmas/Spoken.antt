-- What strings give, where they give a part.
use Rattle.std.proofs.Common.{◌≡◌, ◌≢◌, ℕ, Bool, true, false, List, [], ◌∷◌, length, take, drop}
use Rattle.std.proofs.Common.{Option, Some, None, refl, sym, ap, subst, ◌∙◌}
use Rattle.std.specs.Prelude.{if◌then◌else◌, ◌&&◌, ◌==◌, is_some}
use Rattle.std.specs.List.{list_all}
use Rattle.std.specs.Str.{chars, is_utf8}
use Rattle.std.proofs.lemmas.Str.{IsUtf8-from_is_utf8}
use Rattle.wap_base.proofs.Options.{bound}
use Rattle.wap_base.proofs.Choices.{some_same}
use Rattle.wap_base.specs.Names.{is_name}
use Rattle.wap_base.specs.declared.name.Conv.{Conv}
use Rattle.wap_base.specs.declared.name.Conv.TheVariants.{Escape, Unescape, Plain}
use Rattle.wap_base.specs.declared.name.Part.{Part}
use Rattle.wap_base.specs.declared.name.Part.TheVariants.{Lit, Var}
use Rattle.wap_tokens.specs.declared.markup.codes.TheConstants.{ENTITY, STR_I, EXT_I_0, EXT_I_1}
use Rattle.wap_tokens.specs.declared.markup.codes.TheConstants.{EXT_I_2}
use Rattle.wap_tokens.specs.markup.Decks.{literal}
use Rattle.wap_tokens.specs.markup.Strings.{is_not_zero}
use Rattle.wap_wbxml.specs.spelling.Spellable.{HasNoZero}
use Rattle.wap_deck.specs.good.Readers.{◌>>=◌, first_of, after, zero_place, ended_at, behind_zero}
use Rattle.wap_deck.specs.good.Texts.{string_part, name_part, string_at, reference_at, character_at}
use Rattle.wap_deck.specs.good.Texts.{part_at, part_end, behind_value, AreParts}
use Rattle.wap_deck.proofs.GoodLemmas.Runs.{all_end, turn}
use Rattle.wap_deck.proofs.GoodLemmas.Taking.{part_takes}
use Rattle.wap_wbxml.proofs.StringLaws.{front_not_zero}
use Rattle.wap_deck.proofs.GoodLemmas.Zeros.{chars_no_zero}
use Rattle.wap_deck.proofs.GoodLemmas.Ending.{first_is}

pub filled : (text : List ℕ) → (length text == 0) ≡ false → text ≢ []
filled [] some e = cc
filled (c ∷ cs) some e = cc

-- ---- a string up to a 0 has none

ended_none : (bytes : List ℕ) (x : List ℕ × List ℕ) → ended_at bytes ≡ Some x
    → list_all is_not_zero x.0 ≡ true
unfolding ended_at
ended_none bytes x e =
    let a = bound (after 0 (drop (zero_place bytes) bytes)) _ x e in
    let front = take (zero_place bytes) bytes in
    ap (list_all is_not_zero)
    (sym (ap (λ (y : List ℕ × List ℕ). y.0) (some_same (front, a.0) x a.2)))
    ∙ front_not_zero bytes

-- ---- a string that gives a part is of UTF-8

literal_is : (text : List ℕ) (part : Part) → literal text ≡ Some part → part ≡ Lit text
literal_is [] part e = absurd cc
literal_is (c ∷ cs) part e = sym (some_same (Lit (c ∷ cs)) part e)

string_by : (b : Bool) (bytes : List ℕ) (part : Part)
    → (if b then literal (chars bytes) else None) ≡ Some part
    → (b ≡ true) × (part ≡ Lit (chars bytes))
string_by true bytes part e = (refl, literal_is (chars bytes) part e)
string_by false bytes part e = absurd cc

name_by : (b c : Bool) (bytes : List ℕ) (conv : Conv) (part : Part)
    → (if b && c then Some (Var (chars bytes) conv) else None) ≡ Some part
    → (b ≡ true) × (part ≡ Var (chars bytes) conv)
name_by true true bytes conv part e = (refl, sym (some_same (Var (chars bytes) conv) part e))
name_by true false bytes conv part e = absurd cc
name_by false c bytes conv part e = absurd cc

-- a reading that is a part and what follows
abbrev with_rest : List ℕ → Part → Option (Part × List ℕ)
with_rest rest part = Some (part, rest)

given : (o : Option Part) (rest : List ℕ) → is_some (o >>= with_rest rest) ≡ true
    → (part : Part) × (o ≡ Some part)
given (Some part) rest is = (part, refl)
given None rest is = absurd cc

module _ (bytes string rest : List ℕ) (e : ended_at bytes ≡ Some (string, rest)) where
  string_on : string_at bytes ≡ (string_part string >>= with_rest rest)
  unfolding string_at
  string_on =
      ap (λ (o : Option (List ℕ × List ℕ)).
      o >>= λ x. string_part x.0 >>= λ part. Some (part, x.1)) e

  module _ (some : is_some (string_at bytes) ≡ true) where
    string_given : (part : Part) × (string_part string ≡ Some part)
    string_given = given (string_part string) rest (ap is_some (sym string_on) ∙ some)

    string_told : (is_utf8 string ≡ true) × (string_given.0 ≡ Lit (chars string))
    string_told = string_by (is_utf8 string) string string_given.0 string_given.1

    pub string_utf8 : is_utf8 string ≡ true
    string_utf8 = string_told.0

    pub string_kind : (text : List ℕ) → text ≡ string → HasNoZero (chars text)
    string_kind text same =
        subst (λ (l : List ℕ). HasNoZero (chars l)) (sym same)
        (chars_no_zero string (IsUtf8-from_is_utf8 string string_utf8)
        (ended_none bytes (string, rest) e))

    pub string_read : (text : List ℕ) → text ≡ string
        → string_at bytes ≡ Some (Lit (chars text), rest)
    string_read text same =
        string_on
        ∙ ap (λ (o : Option Part). o >>= with_rest rest) string_given.1
        ∙ ap (λ (part : Part). with_rest rest part) string_told.1
        ∙ ap (λ (l : List ℕ). with_rest rest (Lit (chars l))) (sym same)

  reference_on : (conv : Conv)
      → reference_at conv bytes ≡ (name_part conv string >>= with_rest rest)
  unfolding reference_at
  reference_on conv =
      ap (λ (o : Option (List ℕ × List ℕ)).
      o >>= λ x. name_part conv x.0 >>= λ part. Some (part, x.1)) e

  module _ (conv : Conv) (some : is_some (reference_at conv bytes) ≡ true) where
    reference_given : (part : Part) × (name_part conv string ≡ Some part)
    reference_given =
        given (name_part conv string) rest (ap is_some (sym (reference_on conv)) ∙ some)

    reference_told : (is_utf8 string ≡ true) × (reference_given.0 ≡ Var (chars string) conv)
    reference_told =
        name_by (is_utf8 string) (is_name string) string conv reference_given.0 reference_given.1

    pub reference_utf8 : is_utf8 string ≡ true
    reference_utf8 = reference_told.0

    pub reference_read : (name : List ℕ) → name ≡ string
        → reference_at conv bytes ≡ Some (Var (chars name) conv, rest)
    reference_read name same =
        reference_on conv
        ∙ ap (λ (o : Option Part). o >>= with_rest rest) reference_given.1
        ∙ ap (λ (part : Part). with_rest rest part) reference_told.1
        ∙ ap (λ (l : List ℕ). with_rest rest (Var (chars l) conv)) (sym same)

-- ---- a character is U+0000

pub character_read : (bytes : List ℕ) → is_some (character_at bytes) ≡ true
    → character_at bytes ≡ Some (Lit (0 ∷ []), drop 1 bytes)
unfolding character_at
character_read [] some = absurd cc
character_read (number ∷ rest) some = either (number == 0) some
  where
    read : Option (List ℕ) → Option (Part × List ℕ)
    read after = after >>= λ rest. Some (Lit (0 ∷ []), rest)

    either : (b : Bool) → is_some (read (if b then Some rest else None)) ≡ true
        → read (if b then Some rest else None) ≡ Some (Lit (0 ∷ []), rest)
    either true some = refl
    either false some = absurd cc

-- ---- each mark begins a part

marked_some : (bytes end : List ℕ) → AreParts bytes → part_end bytes ≡ Some end
    → is_some (part_at bytes) ≡ true
marked_some bytes end are e = there (part_at bytes) refl
  where
    there : (o : Option (Part × List ℕ)) → part_at bytes ≡ o → is_some (part_at bytes) ≡ true
    there (Some x) is = ap is_some is
    there None is =
        let here : behind_value bytes ≡ bytes =
        ap (λ (r : List Part × List ℕ). r.1) (all_end part_at bytes is) in
        let none : part_end bytes ≡ None = ap part_end (sym here) ∙ are in
        absurd cc

module _ (bytes : List ℕ) (mark : ℕ) (rest : List ℕ) (are : AreParts bytes)
    (e : first_of bytes ≡ Some (mark, rest)) where
  begun_by : (known : ℕ) → mark ≡ known → AreParts (known ∷ rest)
  begun_by known is = subst AreParts (first_is bytes mark rest e ∙ ap (λ (m : ℕ). m ∷ rest) is) are

  pub string_there : mark ≡ STR_I → is_some (string_at rest) ≡ true
  unfolding part_at part_end
  string_there is = marked_some (STR_I ∷ rest) (behind_zero rest) (begun_by STR_I is) refl

  pub character_there : mark ≡ ENTITY → is_some (character_at rest) ≡ true
  unfolding part_at part_end
  character_there is = marked_some (ENTITY ∷ rest) (drop 1 rest) (begun_by ENTITY is) refl

  pub escape_there : mark ≡ EXT_I_0 → is_some (reference_at Escape rest) ≡ true
  unfolding part_at part_end
  escape_there is = marked_some (EXT_I_0 ∷ rest) (behind_zero rest) (begun_by EXT_I_0 is) refl

  pub unescape_there : mark ≡ EXT_I_1 → is_some (reference_at Unescape rest) ≡ true
  unfolding part_at part_end
  unescape_there is = marked_some (EXT_I_1 ∷ rest) (behind_zero rest) (begun_by EXT_I_1 is) refl

  pub plain_there : mark ≡ EXT_I_2 → is_some (reference_at Plain rest) ≡ true
  unfolding part_at part_end
  plain_there is = marked_some (EXT_I_2 ∷ rest) (behind_zero rest) (begun_by EXT_I_2 is) refl

-- they do after the first part, too
pub parts_on : (bytes : List ℕ) (part : Part) (rest : List ℕ) → part_at bytes ≡ Some (part, rest)
    → AreParts bytes → AreParts rest
parts_on bytes part rest e are =
    ap part_end (turn part_at part_takes bytes part rest (behind_value bytes) e refl) ∙ are
