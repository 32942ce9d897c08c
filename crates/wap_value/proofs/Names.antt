-- Texts of ASCII are their own bytes.
use Rattle.std.proofs.Common.{◌≡◌, ◌^◌, ◌<◌, ℤ, arith}
use Rattle.std.specs.Prelude.{FitsSigned}
use Rattle.std.specs.Int.{w32}
use Rattle.std.specs.Fmt.{signed_decimal}
use Rattle.std.specs.Str.{chars}
use Rattle.std.proofs.lemmas.Str.{chars-IsAscii}
use Rattle.std.proofs.lemmas.Fmt.{IsAscii-signed}
use lib.Signed.{mag}

pub decimal_is_itself : (z : ℤ) → FitsSigned w32 z → chars (signed_decimal z) ≡ signed_decimal z
decimal_is_itself z fits =
    let small : mag z < 2 ^ 63 = omega (arith, fits.sfits) in
    chars-IsAscii (signed_decimal z) (IsAscii-signed z small)
