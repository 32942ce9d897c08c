-- A text, given bit by bit. This project's own.
use Rattle.std.specs.Prelude.{◌≡◌, ◌≢◌, ℕ, ◌+◌, Bool, true, false, List, [], ◌∷◌, ◌++◌}
use Rattle.std.specs.Prelude.{length, Option, Some, None, MatchOption, encode_utf8_all}
use Rattle.std.specs.Borrow.{Bor}
use Rattle.std.specs.Iterator.{Count, at_most}
use Rattle.std.specs.Str.{chars}
use Rattle.wap_base.specs.declared.name.Part.{Part}
use Rattle.wap_base.specs.declared.name.Part.TheVariants.{Lit, Var}
use Rattle.wap_base.specs.Texts.{is_same_text}
use Rattle.wap_tokens.specs.markup.Decks.{before}
use Rattle.wap_tokens.specs.markup.Normal.{IsPart}
use Rattle.wap_wbxml.specs.spelling.Spellable.{HasNoZero}
use Rattle.wap_deck.specs.good.Texts.{value_at}
use Rattle.wap_deck.specs.declared.good.bits.Bit.{Bit}
use Rattle.wap_deck.specs.declared.good.bits.Bit.TheVariants as bit

-- what a bit is of a text
abbrev pub part_of : Bit → Part
part_of (bit.Slice text) = Lit (chars text.now)
part_of (bit.Char character) = Lit (character ∷ [])
part_of (bit.Var name conv) = Var (chars name.now) conv

-- whether a part is a reference to a variable
abbrev pub is_reference : Part → Bool
is_reference (Lit text) = false
is_reference (Var name conv) = true

-- a string in place can hold any character but U+0000: a slice has only such as it can hold, and a
-- character is the one that it can't
abbrev pub IsOfKind : Bit → Type 0
IsOfKind (bit.Slice text) = HasNoZero (chars text.now)
IsOfKind (bit.Char character) = character ≡ 0
IsOfKind (bit.Var name conv) = Unit {0}

-- a bit comes first, and the rest after it; characters join a literal that follows them
pub record IsFirstBit (parts : List Part) (first : Bit) (rest : List Part) : Type 0 where
  pub together : parts ≡ before (part_of first) rest
  pub part : IsPart (part_of first)
  pub kind : IsOfKind first

-- the first bit of a value and the bytes after it, or nothing where it has no parts
abbrev pub FindsBit : List Part → Option (Bit × Bor (List ℕ)) → Type 0
FindsBit parts result =
    MatchOption result (parts ≡ [])
    (λ read. IsFirstBit parts read.0 (value_at [] read.1.now))

-- a call gives the first bit, or nothing where nothing is left
abbrev pub GivesBit : List Part → Option Bit → List Part → Type 0
GivesBit parts given rest =
    MatchOption given ((parts ≡ []) × (rest ≡ [])) (λ one. IsFirstBit parts one rest)

-- a character counts as one, and so does a reference
abbrev pub part_size : Part → ℕ
part_size (Lit text) = length text
part_size (Var name conv) = 1

-- the same of several parts
abbrev pub parts_size : List Part → ℕ
parts_size [] = 0
parts_size (part ∷ parts) = part_size part + parts_size parts

-- at most so many bits are left
abbrev pub parts_left : List Part → Count
parts_left parts = at_most (parts_size parts)

-- ---- a text, compared

-- whether these bytes are the UTF-8 of a text, if there is one
abbrev pub is_utf8_of : List ℕ → Option (List ℕ) → Bool
is_utf8_of bytes None = false
is_utf8_of bytes (Some text) = is_same_text (encode_utf8_all text) bytes

-- what follows a part in bytes, where they begin with its UTF-8
abbrev pub TakesPart : Part → List ℕ → Option (Bor (List ℕ)) → Type 0
TakesPart (Lit text) bytes result =
    MatchOption result ((rest : List ℕ) → bytes ≢ encode_utf8_all text ++ rest)
    (λ rest. bytes ≡ encode_utf8_all text ++ rest.now)
TakesPart (Var name conv) bytes result = result ≡ None
