-- Texts in the character sets that documents are written in, by their numbers (IANA's MIBenum).
use Rattle.std.specs.Prelude.{◌≡◌, ℕ, ◌<◌, Bool, ◌&&◌, ◌||◌, nat_lt}
use Rattle.std.specs.Prelude.{nat_le, true, List, encode_utf8_all}
use Rattle.std.specs.List.{AllByRecursion}
use Rattle.std.specs.Str.{all_scalars}
use Rattle.wap_base.specs.declared.charset.Charset.{Charset}
use Rattle.wap_base.specs.declared.charset.Charset.TheVariants.{Ascii, Latin1, Utf8}

-- the bytes spell the text: a byte a character but in UTF-8
abbrev pub IsText : Charset → List ℕ → List ℕ → Type 0
IsText Ascii bytes text = AllByRecursion (λ byte. byte < 128) bytes × (text ≡ bytes)
IsText Latin1 bytes text = text ≡ bytes
IsText Utf8 bytes text = (all_scalars text ≡ true) × (encode_utf8_all text ≡ bytes)

-- the number of a character: a Unicode scalar value
abbrev pub is_character : ℕ → Bool
is_character number = nat_lt number 0xD800 || (nat_lt 0xDFFF number && nat_le number 0x10FFFF)
