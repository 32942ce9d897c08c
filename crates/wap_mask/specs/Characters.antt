-- Which characters a letter of a mask stands for (WAP-191, section 11.6.3, the attribute `format`).
-- This project's own: letters, digits and punctuation are those of ASCII, a space is punctuation,
-- and M and m take any character, control characters among them.
use Rattle.std.specs.Prelude.{ℕ, Bool, true, ◌&&◌, ◌||◌, not, Option, Some}
use Rattle.std.specs.Prelude.{None, ◌==◌, if◌then◌else◌}
use Rattle.std.specs.Char.{is_ascii_digit, is_ascii_uppercase}
use Rattle.std.specs.Char.{is_ascii_lowercase, is_ascii_alphanumeric}
use Rattle.std.specs.Int.{is_in_range}
use Rattle.wap_base.specs.Ascii.{space, capital_a, capital_m, capital_n, capital_x, small_a}
use Rattle.wap_base.specs.Ascii.{small_m, small_n, small_x, tilde}
use Rattle.wap_mask.specs.declared.class.Class.{Class}
use Rattle.wap_mask.specs.declared.class.Class.TheVariants.{UpperOrMark, LowerOrMark, Digit}
use Rattle.wap_mask.specs.declared.class.Class.TheVariants.{DigitOrMark, UpperDigitOrMark}
use Rattle.wap_mask.specs.declared.class.Class.TheVariants.{LowerDigitOrMark, Any}

-- punctuation is every ASCII character from 20 to 7E that is no letter and no digit
abbrev pub is_mark : ℕ → Bool
is_mark c = is_in_range space tilde c && not (is_ascii_alphanumeric c)

-- the character is in the class
abbrev pub is_in : Class → ℕ → Bool
is_in UpperOrMark c = is_ascii_uppercase c || is_mark c
is_in LowerOrMark c = is_ascii_lowercase c || is_mark c
is_in Digit c = is_ascii_digit c
is_in DigitOrMark c = is_ascii_digit c || is_mark c
is_in UpperDigitOrMark c = (is_ascii_uppercase c || is_ascii_digit c) || is_mark c
is_in LowerDigitOrMark c = (is_ascii_lowercase c || is_ascii_digit c) || is_mark c
is_in Any c = true

-- the class that a letter stands for
abbrev pub class_of : ℕ → Option Class
class_of c =
    if c == capital_a then Some UpperOrMark
    else (if c == small_a then Some LowerOrMark
    else (if c == capital_n then Some Digit
    else (if c == small_n then Some DigitOrMark
    else (if c == capital_x then Some UpperDigitOrMark
    else (if c == small_x then Some LowerDigitOrMark
    else (if c == capital_m || c == small_m then Some Any
    else None))))))
