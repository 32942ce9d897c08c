-- Numbers as key lines and words write them. This project's own.
use Rattle.std.specs.Prelude.{ℕ, ◌&&◌, nat_lt, nat_le, if◌then◌else◌, List}
use Rattle.std.specs.Prelude.{length, Option, Some, None}
use Rattle.std.specs.List.{list_all}
use Rattle.std.specs.Char.{is_ascii_digit}
use Rattle.std.specs.Str.Parse.{digits_value}

-- the number that one to ten digits write, where it isn't past the greatest
abbrev pub decimal_of : ℕ → List ℕ → Option ℕ
decimal_of greatest digits =
    if nat_lt 0 (length digits)
    && (nat_le (length digits) 10
    && (list_all is_ascii_digit digits && nat_le (digits_value 10 digits) greatest))
    then Some (digits_value 10 digits) else None
