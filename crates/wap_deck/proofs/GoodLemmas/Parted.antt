-- The parts of a value, one by one.
use Rattle.std.proofs.Common.{◌≡◌, ◌≢◌, ℕ, ◌+◌, ◌<◌, Bool, true, false, List, [], ◌∷◌, length}
use Rattle.std.proofs.Common.{Option, Some, None, refl, sym, ap, subst, ◌∙◌, arith}
use Rattle.std.specs.Prelude.{if◌then◌else◌, ◌&&◌, ◌==◌, IfSome}
use Rattle.std.specs.Str.{chars, is_utf8, IsUtf8}
use Rattle.std.proofs.lemmas.Bool.{and_parts, eqb-true}
use Rattle.std.proofs.lemmas.List.{length-append, nil_from_length}
use Rattle.std.proofs.lemmas.Str.{chars-nil, chars-encodes, IsUtf8-from_is_utf8}
use Rattle.wap_base.proofs.TextLaws.{nil-from_chars}
use Rattle.wap_base.specs.Names.{is_name}
use Rattle.wap_base.proofs.NameLaws.{name-encode}
use Rattle.wap_base.specs.declared.name.Conv.{Conv}
use Rattle.wap_base.specs.declared.name.Conv.TheVariants.{Escape, Unescape, Plain}
use Rattle.wap_base.specs.declared.name.Part.{Part}
use Rattle.wap_base.specs.declared.name.Part.TheVariants.{Lit, Var}
use Rattle.wap_tokens.specs.declared.markup.codes.TheConstants.{ENTITY, STR_I, EXT_I_0, EXT_I_1}
use Rattle.wap_tokens.specs.declared.markup.codes.TheConstants.{EXT_I_2}
use Rattle.wap_tokens.specs.markup.Decks.{literal, before, joined}
use Rattle.wap_tokens.specs.markup.Normal.{IsPart}
use Rattle.wap_wbxml.specs.spelling.Spellable.{HasNoZero}
use Rattle.wap_deck.specs.good.Readers.{Reads, ◌>>=◌, first_of, after, ended_at}
use Rattle.std.specs.Borrow.{Bor}
use Rattle.wap_deck.specs.declared.good.bits.Bit.{Bit}
use Rattle.wap_deck.specs.declared.good.bits.Bit.TheVariants as bit
use Rattle.wap_deck.specs.good.Texts.{string_part, name_part, string_at, reference_at}
use Rattle.wap_deck.specs.good.Texts.{character_at, part_from, part_at, value_at, AreParts}
use Rattle.wap_deck.specs.good.Runs.{part_of, IsOfKind, part_size, parts_size, IsFirstBit, FindsBit}
use Rattle.wap_deck.proofs.GoodLemmas.Runs.{Each, each_bind, all_on, all_end}
use Rattle.wap_deck.proofs.GoodLemmas.Taking.{each_if, part_takes}
use Rattle.wap_deck.proofs.GoodLemmas.Spoken.{filled, parts_on}

-- ---- each part is one of a normal value

abbrev IsRead : Part × List ℕ → Type 0
IsRead x = IsPart x.0

given_on : (o : Option Part) (rest : List ℕ) → Each IsPart o
    → Each IsRead (o >>= λ part. Some (part, rest))
given_on (Some part) rest is = is
given_on None rest is = tt

literal_given : (text : List ℕ) → Each IsPart (literal text)
literal_given [] = tt
literal_given (c ∷ cs) = λ e. cc

string_given : (bytes : List ℕ) → Each IsPart (string_part bytes)
string_given bytes =
    each_if IsPart (is_utf8 bytes) (literal (chars bytes)) None (literal_given (chars bytes)) tt

name_is : (bytes : List ℕ) → is_utf8 bytes ≡ true → is_name bytes ≡ true
    → is_name (chars bytes) ≡ true
name_is bytes utf8 named =
    let of = IsUtf8-from_is_utf8 bytes utf8 in
    let same : chars bytes ≡ of.0 = ap chars (sym of.1.1) ∙ chars-encodes of.0 of.1.0 in
    ap is_name same ∙ sym (name-encode of.0) ∙ ap is_name of.1.1 ∙ named

name_by : (b : Bool) (bytes : List ℕ) (conv : Conv) → (b ≡ true → is_name (chars bytes) ≡ true)
    → Each IsPart (if b then Some (Var (chars bytes) conv) else None)
name_by true bytes conv named = named refl
name_by false bytes conv named = tt

name_given : (conv : Conv) (bytes : List ℕ) → Each IsPart (name_part conv bytes)
name_given conv bytes =
    name_by (is_utf8 bytes && is_name bytes) bytes conv (λ both.
    let parts = and_parts (is_utf8 bytes) (is_name bytes) both in name_is bytes parts.0 parts.1)

abbrev Any : {A : Type 0} → A → Type 0
Any x = Unit {0}

any : {A : Type 0} (o : Option A) → Each Any o
any (Some x) = tt
any None = tt

string_read : (bytes : List ℕ) → Each IsRead (string_at bytes)
unfolding string_at
string_read bytes =
    each_bind Any IsRead (ended_at bytes) (λ x. string_part x.0 >>= λ part. Some (part, x.1))
    (any (ended_at bytes)) (λ x t. given_on (string_part x.0) x.1 (string_given x.0))

reference_read : (conv : Conv) (bytes : List ℕ) → Each IsRead (reference_at conv bytes)
unfolding reference_at
reference_read conv bytes =
    each_bind Any IsRead (ended_at bytes) (λ x. name_part conv x.0 >>= λ part. Some (part, x.1))
    (any (ended_at bytes)) (λ x t. given_on (name_part conv x.0) x.1 (name_given conv x.0))

character_read : (bytes : List ℕ) → Each IsRead (character_at bytes)
unfolding character_at
character_read bytes =
    each_bind Any IsRead (after 0 bytes) (λ rest. Some (Lit (0 ∷ []), rest)) (any (after 0 bytes))
    (λ rest t e. cc)

from_read : (mark : ℕ) (rest : List ℕ) → Each IsRead (part_from mark rest)
from_read mark rest =
    each_if IsRead (mark == STR_I) _ _ (string_read rest)
    (each_if IsRead (mark == ENTITY) _ _ (character_read rest)
    (each_if IsRead (mark == EXT_I_0) _ _ (reference_read Escape rest)
    (each_if IsRead (mark == EXT_I_1) _ _ (reference_read Unescape rest)
    (each_if IsRead (mark == EXT_I_2) _ _ (reference_read Plain rest) tt))))

all_read : (bytes : List ℕ) → Each IsRead (part_at bytes)
unfolding part_at
all_read bytes =
    each_bind Any IsRead (first_of bytes) (λ x. part_from x.0 x.1) (any (first_of bytes))
    (λ x t. from_read x.0 x.1)

pub part_is : (bytes : List ℕ) (part : Part) (rest : List ℕ) → part_at bytes ≡ Some (part, rest)
    → IsPart part
part_is bytes part rest e =
    let P : Option (Part × List ℕ) → Type 0 = Each IsRead in
    subst P e (all_read bytes)

-- ---- values

pub value_next : (bytes : List ℕ) (part : Part) (rest : List ℕ) → part_at bytes ≡ Some (part, rest)
    → value_at [] bytes ≡ before part (value_at [] rest)
value_next bytes part rest e =
    ap (λ (r : List Part × List ℕ). joined r.0) (all_on part_at part_takes bytes part rest e)

pub value_none : (bytes : List ℕ) → part_at bytes ≡ None → value_at [] bytes ≡ []
value_none bytes e = ap (λ (r : List Part × List ℕ). joined r.0) (all_end part_at bytes e)

pub value_begun : (text bytes : List ℕ) → text ≢ []
    → value_at text bytes ≡ before (Lit text) (value_at [] bytes)
value_begun [] bytes some = absurd (some refl)
value_begun (c ∷ cs) bytes some = refl

pub before_some : (part : Part) (parts : List Part) → before part parts ≢ []
before_some (Lit a) [] e = cc
before_some (Lit a) (Lit b ∷ parts) e = cc
before_some (Lit a) (Var name conv ∷ parts) e = cc
before_some (Var name conv) parts e = cc

-- a value by the text of its first part
pub begun_value : (bytes text rest : List ℕ) → part_at bytes ≡ Some (Lit text, rest)
    → value_at text rest ≡ value_at [] bytes
begun_value bytes text rest e =
    value_begun text rest (part_is bytes (Lit text) rest e)
    ∙ sym (value_next bytes (Lit text) rest e)

-- ---- sizes

size_before : (part : Part) (parts : List Part)
    → parts_size (before part parts) ≡ part_size part + parts_size parts
size_before (Lit a) [] = omega arith
size_before (Lit a) (Lit b ∷ parts) = omega (arith, length-append a b)
size_before (Lit a) (Var name conv ∷ parts) = omega arith
size_before (Var name conv) parts = omega arith

size_some : (part : Part) → IsPart part → 0 < part_size part
size_some (Lit []) is = absurd (is refl)
size_some (Lit (c ∷ cs)) is = omega arith
size_some (Var name conv) is = omega arith

pub size_less : (parts : List Part) (first : Bit) (rest : List Part) → IsFirstBit parts first rest
    → parts_size rest < parts_size parts
size_less parts first rest is =
    omega (
      arith,
      ap parts_size is.together,
      size_before (part_of first) rest,
      size_some (part_of first) is.part,
    )

first_bit : (bytes : List ℕ) (first : Bit) (rest : List ℕ)
    → part_at bytes ≡ Some (part_of first, rest) → IsOfKind first
    → IsFirstBit (value_at [] bytes) first (value_at [] rest)
first_bit bytes first rest e kind = record {
  together = value_next bytes (part_of first) rest e;
  part = part_is bytes (part_of first) rest e;
  kind = kind;
}

-- ---- a text before what bytes say

pub begun_none : (text bytes : List ℕ) → (length text == 0) ≡ true
    → value_at (chars text) bytes ≡ value_at [] bytes
begun_none text bytes empty =
    ap (λ (l : List ℕ). value_at (chars l) bytes)
    (nil_from_length text (eqb-true (length text) 0 empty))
    ∙ ap (λ (l : List ℕ). value_at l bytes) chars-nil

chars_filled : (text : List ℕ) → IsUtf8 text → (length text == 0) ≡ false → chars text ≢ []
chars_filled text utf8 some none = filled text some (nil-from_chars text utf8 none)

pub begun_first : (text : Bor (List ℕ)) (bytes : List ℕ) → IsUtf8 text.now
    → (length text.now == 0) ≡ false → HasNoZero (chars text.now)
    → IsFirstBit (value_at (chars text.now) bytes) (bit.Slice text) (value_at [] bytes)
begun_first text bytes utf8 some no_zero =
    let filled = chars_filled text.now utf8 some in
    record {
      together = value_begun (chars text.now) bytes filled;
      part = filled;
      kind = no_zero;
    }

-- ---- the first bit, as calls give it

pub bit_found : (text bytes : List ℕ) → (length text == 0) ≡ true
    → (result : Option (Bit × Bor (List ℕ)))
    → Reads (λ read. (part_of read.0, read.1.now)) result (part_at bytes)
    → IfSome result (λ read. IsOfKind read.0) → FindsBit (value_at (chars text) bytes) result
bit_found text bytes empty (Some read) e kind =
    subst (λ (parts : List Part). IsFirstBit parts read.0 (value_at [] read.1.now))
    (sym (begun_none text bytes empty)) (first_bit bytes read.0 read.1.now e kind)
bit_found text bytes empty None e kind = begun_none text bytes empty ∙ value_none bytes e

pub bits_on : (bytes : List ℕ) → AreParts bytes → (result : Option (Bit × Bor (List ℕ)))
    → Reads (λ read. (part_of read.0, read.1.now)) result (part_at bytes)
    → IfSome result (λ read. AreParts read.1.now)
bits_on bytes are (Some read) e = parts_on bytes (part_of read.0) read.1.now e are
bits_on bytes are None e = tt

pub bit_some : (parts : List Part) (first : Bit) (rest : List Part)
    → IsFirstBit parts first rest → parts ≢ []
bit_some parts first rest is none = before_some (part_of first) rest (sym is.together ∙ none)
