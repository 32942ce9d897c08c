-- Texts and values of attributes, as they stand in the bytes of a deck (WAP-192, section 5.8.4):
-- strings in place, U+0000, which no string in place can hold, by its number, and references to
-- variables.
use Rattle.std.specs.Prelude.{◌≡◌, ℕ, ◌==◌, ◌&&◌, if◌then◌else◌, List}
use Rattle.std.specs.Prelude.{[], ◌∷◌, drop, Option, Some, None}
use Rattle.std.specs.List.{cons_option}
use Rattle.std.specs.Str.{chars, is_utf8}
use Rattle.wap_base.specs.Names.{is_name}
use Rattle.wap_base.specs.declared.name.Conv.{Conv}
use Rattle.wap_base.specs.declared.name.Conv.TheVariants.{Escape, Unescape, Plain}
use Rattle.wap_base.specs.declared.name.Part.{Part}
use Rattle.wap_base.specs.declared.name.Part.TheVariants.{Lit, Var}
use Rattle.wap_tokens.specs.declared.markup.codes.TheConstants.{ENTITY, STR_I, EXT_I_0, EXT_I_1}
use Rattle.wap_tokens.specs.declared.markup.codes.TheConstants.{EXT_I_2}
use Rattle.wap_tokens.specs.markup.Decks.{literal, joined}
use Rattle.wap_wbxml.specs.spelling.Spellable.{HasNoZero}
use Rattle.wap_deck.specs.good.Readers.{Reader, ◌>>=◌, first_of, after, ended_at, behind_zero}
use Rattle.wap_deck.specs.good.Readers.{all_of}

-- the text of a string, if it has a character
abbrev pub string_part : List ℕ → Option Part
string_part bytes = if is_utf8 bytes then literal (chars bytes) else None

-- a reference, if the string is a name
abbrev pub name_part : Conv → List ℕ → Option Part
name_part conv bytes =
    if is_utf8 bytes && is_name bytes then Some (Var (chars bytes) conv) else None

-- a string in place as a literal
unfoldable pub string_at : Reader Part
string_at bytes = ended_at bytes >>= λ x. string_part x.0 >>= λ part. Some (part, x.1)

-- a string in place as a reference to a variable
unfoldable pub reference_at : Conv → Reader Part
reference_at conv bytes = ended_at bytes >>= λ x. name_part conv x.0 >>= λ part. Some (part, x.1)

-- no other character stands by its number
unfoldable pub character_at : Reader Part
character_at bytes = after 0 bytes >>= λ rest. Some (Lit (0 ∷ []), rest)

-- a part of a text after the byte that says which it is
abbrev pub part_from : ℕ → Reader Part
part_from mark rest =
    if mark == STR_I then string_at rest else
    if mark == ENTITY then character_at rest else
    if mark == EXT_I_0 then reference_at Escape rest else
    if mark == EXT_I_1 then reference_at Unescape rest else
    if mark == EXT_I_2 then reference_at Plain rest else None

-- a part of a text
unfoldable pub part_at : Reader Part
part_at bytes = first_of bytes >>= λ x. part_from x.0 x.1

-- what follows a part, as its mark tells; only a part has such a mark
abbrev pub part_end_from : ℕ → List ℕ → Option (List ℕ)
part_end_from mark rest =
    if mark == STR_I then Some (behind_zero rest) else
    if mark == ENTITY then Some (drop 1 rest) else
    if mark == EXT_I_0 then Some (behind_zero rest) else
    if mark == EXT_I_1 then Some (behind_zero rest) else
    if mark == EXT_I_2 then Some (behind_zero rest) else None

-- what follows a part, if one begins here
unfoldable pub part_end : List ℕ → Option (List ℕ)
part_end bytes = first_of bytes >>= λ x. part_end_from x.0 x.1

-- what parts in a row give after a text, and what follows them
abbrev pub value_at : List ℕ → List ℕ → List Part
value_at text bytes = joined (cons_option (literal text) (all_of part_at bytes).0)

-- what follows parts in a row
abbrev pub behind_value : List ℕ → List ℕ
behind_value bytes = (all_of part_at bytes).1

-- each mark of a part begins one, up to what follows them: a character is U+0000
abbrev pub AreParts : List ℕ → Type 0
AreParts bytes = part_end (behind_value bytes) ≡ None

-- a text without U+0000, and bytes of parts after it
pub record IsRun (begun bytes : List ℕ) : Type 0 where
  pub text : HasNoZero (chars begun)
  pub parts : AreParts bytes
