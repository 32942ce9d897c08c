-- What is written of a value into a format (WAP-194, "format").
use Rattle.std.specs.Prelude.{ℕ, zero, suc, ◌-◌, List, [], ◌∷◌, ◌++◌, length, take, replicate}
use Rattle.std.specs.Prelude.{ℤ, pos, negsuc, Option, Some, None, option_map}
use Rattle.std.specs.Fmt.{decimal}
use Rattle.wap_base.specs.Options.{◌>>=◌}
use Rattle.wap_base.specs.Ascii.{space, hyphen, digit_zero}
use Rattle.wap_value.specs.declared.value.Value.{Value}
use Rattle.wap_value.specs.Conversion.{integer_of, text_of}
use Rattle.wap_libs.specs.declared.piece.Conversion.{Conversion}
use Rattle.wap_libs.specs.declared.piece.Conversion.TheVariants.{Decimal, Float, String}
use Rattle.wap_libs.specs.declared.piece.Specifier.{Specifier}
use Rattle.wap_libs.specs.declared.piece.Piece.{Piece}
use Rattle.wap_libs.specs.declared.piece.Piece.TheVariants.{Character, Specifier as Writes}
use Rattle.wap_libs.specs.FormatReading.{pieces_of}

-- a number in decimal, where 0 has no digit of its own
abbrev pub own_digits : ℕ → List ℕ
own_digits zero = []
own_digits (suc n) = decimal (suc n)

-- zeros, and then the digits, so many together at least
abbrev pub digits_of : ℕ → ℕ → List ℕ
digits_of least n = replicate (least - length (own_digits n)) digit_zero ++ own_digits n

-- the same of an Integer, with `-` before it where it is below 0
abbrev pub signed_digits : ℕ → ℤ → List ℕ
signed_digits least (pos n) = digits_of least n
signed_digits least (negsuc n) = hyphen ∷ digits_of least (suc n)

-- an Integer has one digit at least where no precision is given
abbrev pub least_digits : Option ℕ → ℕ
least_digits None = 1
least_digits (Some n) = n

-- a String is cut at the precision
abbrev pub cut : Option ℕ → List ℕ → List ℕ
cut None s = s
cut (Some n) s = take n s

-- spaces, and then the text, so many characters together at least
abbrev pub filled : ℕ → List ℕ → List ℕ
filled width s = replicate (width - length s) space ++ s

-- the value as the conversion writes it, where it has such a form; none is a Float
abbrev pub converted : Conversion → Option ℕ → Value → Option (List ℕ)
converted Decimal precision v = option_map (signed_digits (least_digits precision)) (integer_of v)
converted Float precision v = None
converted String precision v = option_map (cut precision) (text_of v)

-- the value as a specifier writes it, filled up to the width
abbrev pub written : Specifier → Value → Option (List ℕ)
written specifier v =
    option_map (filled specifier.width) (converted specifier.conversion specifier.precision v)

-- the characters alone
abbrev pub plain : List Piece → List ℕ
plain [] = []
plain (Character c ∷ pieces) = c ∷ plain pieces
plain (Writes specifier ∷ pieces) = plain pieces

-- the value is written at the first specifier, and nothing at the others
abbrev pub filled_in : Value → List Piece → Option (List ℕ)
filled_in v [] = Some []
filled_in v (Character c ∷ pieces) = option_map (λ s. c ∷ s) (filled_in v pieces)
filled_in v (Writes specifier ∷ pieces) = option_map (λ s. s ++ plain pieces) (written specifier v)

-- the format with the value written into it, where it is well-formed
abbrev pub formatted : List ℕ → Value → Option (List ℕ)
formatted s v = pieces_of s >>= λ pieces. filled_in v pieces
