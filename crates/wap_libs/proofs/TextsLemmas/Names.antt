-- Texts of ASCII are their own bytes.
use Rattle.std.proofs.Common.{◌≡◌, ◌≢◌, ℕ, zero, suc, ◌^◌, ◌<◌, refl}
use Rattle.std.specs.Prelude.{decimal}
use Rattle.std.specs.Str.{chars}
use Rattle.std.proofs.lemmas.Fmt.{IsAscii-decimal}
use Rattle.std.proofs.lemmas.Str.{chars-IsAscii}
use Rattle.wap_libs.specs.Format.{own_digits}

pub decimal_is_itself : (n : ℕ) → n < 2 ^ 64 → chars (decimal n) ≡ decimal n
decimal_is_itself n small = chars-IsAscii (decimal n) (IsAscii-decimal n small)

-- a number that isn't 0 has its digits
pub own_digits_are : (n : ℕ) → n < 2 ^ 64 → n ≢ 0 → chars (decimal n) ≡ own_digits n
own_digits_are zero small some = absurd (some refl)
own_digits_are (suc n) small some = decimal_is_itself (suc n) small
