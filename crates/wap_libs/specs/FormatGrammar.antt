-- How a format is written (WAP-194, "format"): characters that stand for themselves, and
-- specifiers.
use Rattle.std.specs.Prelude.{◌≡◌, ◌≢◌, ℕ, ◌≤◌, ◌==◌, true, if◌then◌else◌, List}
use Rattle.std.specs.Prelude.{[], ◌∷◌, ◌++◌, Option, Some, None}
use Rattle.std.specs.Str.{all_ascii_digits}
use Rattle.std.specs.Str.Parse.{digits_value}
use Rattle.wap_base.specs.Ascii.{percent_sign, full_stop, small_d, small_f, small_s}
use Rattle.wap_libs.specs.declared.piece.Conversion.{Conversion}
use Rattle.wap_libs.specs.declared.piece.Conversion.TheVariants.{Decimal, Float, String}
use Rattle.wap_libs.specs.declared.piece.Specifier.{Specifier}
use Rattle.wap_libs.specs.declared.piece.Piece.{Piece}
use Rattle.wap_libs.specs.declared.piece.Piece.TheVariants.{Character, Specifier as Writes}

-- the conversion that a letter stands for
abbrev pub conversion_of : ℕ → Option Conversion
conversion_of c =
    if c == small_d then Some Decimal
    else (if c == small_f then Some Float
    else (if c == small_s then Some String
    else None))

-- the digits are those of a number; of none it is 0. That it is 65535 at most is this project's
-- own.
abbrev pub IsNumber : List ℕ → ℕ → Type 0
IsNumber digits n = (all_ascii_digits digits ≡ true) × (digits_value 10 digits ≡ n) × (n ≤ 65535)

-- a precision is a `.` and at least one digit, or nothing
abbrev pub IsPrecision : List ℕ → Option ℕ → Type 0
IsPrecision [] precision = precision ≡ None
IsPrecision (c ∷ digits) precision =
    (c ≡ full_stop) × (digits ≢ []) × ((n : ℕ) × (precision ≡ Some n) × IsNumber digits n)

-- the text is a format of these pieces
pub data IsFormat : List ℕ → List Piece → Type 0 where
  nothing : IsFormat [] []
  character : {c : ℕ} {text : List ℕ} {pieces : List Piece} → c ≢ percent_sign
      → IsFormat text pieces → IsFormat (c ∷ text) (Character c ∷ pieces)
  percent : {text : List ℕ} {pieces : List Piece} → IsFormat text pieces
      → IsFormat (percent_sign ∷ percent_sign ∷ text) (Character percent_sign ∷ pieces)
  specifier : (width precision : List ℕ) (c : ℕ) (text : List ℕ) {specifier : Specifier}
      {pieces : List Piece}
      → IsNumber width specifier.width → IsPrecision precision specifier.precision
      → conversion_of c ≡ Some specifier.conversion
      → IsFormat text pieces
      → IsFormat (percent_sign ∷ (width ++ (precision ++ (c ∷ text)))) (Writes specifier ∷ pieces)
