-- Decimal digits: which bytes they are, and which they aren't.
use Rattle.std.proofs.Common.{◌≡◌, ℕ, ◌<◌, ◌≤◌, true, false, List, length, get_or, arith}
use Rattle.std.specs.List.{list_all}
use Rattle.std.specs.Char.{is_ascii_digit}
use Rattle.std.specs.Int.{IsInRange}
use Rattle.std.proofs.lemmas.Bool.Decides.{nat_tests}
use Rattle.std.proofs.lemmas.List.Sums.{AllPass-from_list_all}

digit_in_range : (c : ℕ) → is_ascii_digit c ≡ true → IsInRange 48 57 c
digit_in_range c h = grind (arith, nat_tests)

-- each of some digits is in the range of digits
pub digit_at : (ds : List ℕ) (i : ℕ) → list_all is_ascii_digit ds ≡ true → i < length ds
    → IsInRange 48 57 (get_or ds i 0)
digit_at ds i digits within =
    digit_in_range (get_or ds i 0) (AllPass-from_list_all is_ascii_digit ds digits i 0 within)

-- nothing past US-ASCII is a digit
pub digit_high : (c : ℕ) → 128 ≤ c → is_ascii_digit c ≡ false
digit_high c high = grind (arith, nat_tests)
