-- Numbers (WAP-193, sections 6.1.5.1 and 6.1.5.2).
use Rattle.std.specs.Prelude.{◌≡◌, ℕ, ◌+◌, ◌-◌, ◌*◌, ◌<◌, nat_le, Bool, true, false, ◌==◌}
use Rattle.std.specs.Prelude.{◌||◌, if◌then◌else◌, List, [], ◌∷◌, ◌++◌, length}
use Rattle.std.specs.Char.{is_ascii_digit, is_ascii_hexdigit}
use Rattle.std.specs.List.{fold, list_all}
use Rattle.wap_base.specs.Ascii.{plus_sign, hyphen, full_stop, digit_zero, digit_nine, capital_a}
use Rattle.wap_base.specs.Ascii.{capital_e, capital_f, capital_x, small_a, small_e, small_x}
use Rattle.wap_lex.specs.Characters.{is_octal_digit}

-- only digits, perhaps none
abbrev pub AreDigits : List ℕ → Type 0
AreDigits text = list_all is_ascii_digit text ≡ true

-- x or X
abbrev pub is_x : ℕ → Bool
is_x c = (c == small_x) || (c == capital_x)

-- e or E
abbrev pub is_e : ℕ → Bool
is_e c = (c == small_e) || (c == capital_e)

-- + or -
abbrev pub is_sign : ℕ → Bool
is_sign c = (c == plus_sign) || (c == hyphen)

-- decimal, the first digit other than 0; octal, after a 0; or hexadecimal, after 0x
pub data IsInteger : List ℕ → Type 0 where
  decimal : (first : ℕ) (digits : List ℕ) → is_ascii_digit first ≡ true → (first == digit_zero)
      ≡ false →
      AreDigits digits →
      IsInteger (first ∷ digits)
  octal : (digits : List ℕ) → list_all is_octal_digit digits ≡ true →
      IsInteger (digit_zero ∷ digits)
  hexadecimal : (x : ℕ) (digits : List ℕ) → is_x x ≡ true → 0 < length digits →
      list_all is_ascii_hexdigit digits ≡ true → IsInteger (digit_zero ∷ x ∷ digits)

-- 0 to 9, then A to F and a to f from 10 on
abbrev pub digit_value : ℕ → ℕ
digit_value c =
    if nat_le c digit_nine then c - digit_zero else
    if nat_le c capital_f then c - (capital_a - 10) else c - (small_a - 10)

-- a number in a base with one more digit
abbrev pub with_digit : ℕ → ℕ → ℕ → ℕ
with_digit base value digit = value * base + digit_value digit

-- the number of digits in a base
abbrev pub numeral : ℕ → List ℕ → ℕ
numeral base = fold (with_digit base) 0

-- the value of a decimal, octal or hexadecimal integer
abbrev pub integer_value : List ℕ → ℕ
integer_value [] = 0
integer_value (a ∷ []) = numeral 10 (a ∷ [])
integer_value (a ∷ b ∷ digits) =
    if a == digit_zero then if is_x b then numeral 16 digits else numeral 8 (b ∷ digits)
    else numeral 10 (a ∷ b ∷ digits)

-- the greatest integer of a source
abbrev pub integer_limit : ℕ
integer_limit = 2147483647

-- e, maybe a sign, and digits
pub data IsExponent : List ℕ → Type 0 where
  plain : (e : ℕ) (digits : List ℕ) → is_e e ≡ true → 0 < length digits → AreDigits digits →
      IsExponent (e ∷ digits)
  signed : (e sign : ℕ) (digits : List ℕ) → is_e e ≡ true → is_sign sign ≡ true →
      0 < length digits → AreDigits digits →
      IsExponent (e ∷ sign ∷ digits)

-- digits with a point, on one side of it at least; with an exponent; or with both
pub data IsFloat : List ℕ → Type 0 where
  pointed : (whole fraction : List ℕ) → AreDigits whole → AreDigits fraction →
      0 < length whole + length fraction →
      IsFloat (whole ++ full_stop ∷ fraction)
  scaled : (whole exponent : List ℕ) → AreDigits whole → 0 < length whole → IsExponent exponent →
      IsFloat (whole ++ exponent)
  both : (whole fraction exponent : List ℕ) → AreDigits whole → AreDigits fraction →
      0 < length whole + length fraction → IsExponent exponent →
      IsFloat (whole ++ full_stop ∷ (fraction ++ exponent))
