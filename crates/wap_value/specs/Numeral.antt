-- The Integer that a text spells: an optional sign and decimal digits, and nothing else (WAP-193,
-- "Conversions to Integer"). That no white space may stand around them, as it may in the standard's
-- numeric strings, is this project's own. Whether it is in range is asked after the sign is
-- applied.
use Rattle.std.specs.Prelude.{ℕ, List, [], ◌∷◌, ℤ, pos, neg_ℤ, ◌==◌, Option, Some}
use Rattle.std.specs.Prelude.{None, option_and_then, if◌then◌else◌}
use Rattle.std.specs.Option.{option_map}
use Rattle.std.specs.Str.{all_ascii_digits}
use Rattle.std.specs.Str.Parse.{digits_value}
use Rattle.wap_base.specs.Ascii.{plus_sign, hyphen}
use Rattle.wap_value.specs.Integer.{in_range}

-- the number of one digit or more
abbrev pub unsigned_number : List ℕ → Option ℕ
unsigned_number [] = None
unsigned_number (c ∷ cs) =
    if all_ascii_digits (c ∷ cs) then Some (digits_value 10 (c ∷ cs)) else None

-- the same after a sign, if there is one
abbrev pub signed_number : List ℕ → Option ℤ
signed_number [] = None
signed_number (c ∷ cs) = if c == hyphen then option_map (λ n. neg_ℤ (pos n)) (unsigned_number cs)
    else (if c == plus_sign then option_map pos (unsigned_number cs) else
    option_map pos (unsigned_number (c ∷ cs)))

-- the Integer of a text, in range with its sign
abbrev pub integer_of_text : List ℕ → Option ℤ
integer_of_text cs = option_and_then in_range (signed_number cs)
