-- Escapes in strings, and the texts that strings stand for (WAP-193, section 6.1.5.3).
use Rattle.std.specs.Prelude.{◌≡◌, ℕ, ◌-◌, nat_le, Bool, true, false, ◌==◌, ◌&&◌}
use Rattle.std.specs.Prelude.{if◌then◌else◌, List, [], ◌∷◌, ◌++◌, take, drop, length}
use Rattle.std.specs.Prelude.{encode_utf8_all}
use Rattle.std.specs.Char.{is_ascii_hexdigit}
use Rattle.std.specs.Int.{is_in_range}
use Rattle.std.specs.List.{list_all}
use Rattle.std.specs.Str.{all_scalars}
use Rattle.wap_base.specs.Ascii.{backspace, tab, line_feed, form_feed, carriage_return}
use Rattle.wap_base.specs.Ascii.{backslash, small_b, small_f, small_n, small_r, small_t, small_u}
use Rattle.wap_base.specs.Ascii.{small_x}
use Rattle.wap_lex.specs.Characters.{is_octal_digit}
use Rattle.wap_lex.specs.Numbers.{numeral}
use Rattle.wap_lex.specs.Strings.{is_simple, is_surrogate}

-- b, f, n, r and t name control characters; other characters stand for themselves
abbrev pub named_by : ℕ → ℕ
named_by c =
    if c == small_b then backspace else if c == small_f then form_feed else
    if c == small_n then line_feed else if c == small_r then carriage_return else
    if c == small_t then tab else c

-- one to three octal digits, up to 377
abbrev pub is_octal : List ℕ → Bool
is_octal digits =
    list_all is_octal_digit digits
    && (is_in_range 1 3 (length digits) && nat_le (numeral 8 digits) 255)

-- what stands after a backslash, and the character that it stands for with it
pub data Escapes : List ℕ → ℕ → Type 0 where
  single : (c : ℕ) → is_simple c ≡ true → Escapes (c ∷ []) (named_by c)
  octal : (digits : List ℕ) → is_octal digits ≡ true → Escapes digits (numeral 8 digits)
  hexadecimal : (a b : ℕ) → list_all is_ascii_hexdigit (a ∷ b ∷ []) ≡ true →
      Escapes (small_x ∷ a ∷ b ∷ []) (numeral 16 (a ∷ b ∷ []))
  unicode : (a b c d : ℕ) → list_all is_ascii_hexdigit (a ∷ b ∷ c ∷ d ∷ []) ≡ true →
      is_surrogate a b ≡ false →
      Escapes (small_u ∷ a ∷ b ∷ c ∷ d ∷ []) (numeral 16 (a ∷ b ∷ c ∷ d ∷ []))

-- an octal escape has each digit that could belong to it: none follows
abbrev pub IsWhole : List ℕ → List ℕ → Type 0
IsWhole escape [] = Unit {0}
IsWhole escape (c ∷ rest) = is_octal (escape ++ c ∷ []) ≡ false

-- characters between quotes stand for a text, piece by piece: a character for itself, or a whole
-- escape for its character
pub data StandFor : List ℕ → List ℕ → Type 0 where
  none : StandFor [] []
  plain : (c : ℕ) (rest text : List ℕ) → (c == backslash) ≡ false → StandFor rest text →
      StandFor (c ∷ rest) (c ∷ text)
  escape : (spelling rest text : List ℕ) (c : ℕ) → Escapes spelling c → IsWhole spelling rest →
      StandFor rest text →
      StandFor (backslash ∷ (spelling ++ rest)) (c ∷ text)

-- the bytes between the quotes
abbrev pub inside_quotes : List ℕ → List ℕ
inside_quotes bytes = take (length bytes - 2) (drop 1 bytes)

-- a string, its quotes among its bytes, stands for a text: what stands between the quotes is the
-- UTF-8 of characters that stand for it, and it has no surrogates
pub record StandsForText (bytes text : List ℕ) : Type 0 where
  pub characters : List ℕ
  pub encoded : encode_utf8_all characters ≡ inside_quotes bytes
  pub scalars : all_scalars characters ≡ true
  pub stand : StandFor characters text
  pub no_surrogates : all_scalars text ≡ true
