-- The pieces of a format by calculation. This project's own.
use Rattle.std.specs.Prelude.{ℕ, zero, suc, ◌==◌, nat_le, if◌then◌else◌, List, [], ◌∷◌, length}
use Rattle.std.specs.Prelude.{drop, Option, Some, None, option_map}
use Rattle.std.specs.Char.{is_ascii_digit}
use Rattle.std.specs.List.{prefix_len, take_while}
use Rattle.std.specs.Str.Parse.{digits_value}
use Rattle.wap_base.specs.Options.{◌>>=◌}
use Rattle.wap_base.specs.Ascii.{percent_sign, full_stop}
use Rattle.wap_libs.specs.declared.piece.Conversion.{Conversion}
use Rattle.wap_libs.specs.declared.piece.Specifier.{Specifier}
use Rattle.wap_libs.specs.declared.piece.Piece.{Piece}
use Rattle.wap_libs.specs.declared.piece.Piece.TheVariants.{Character, Specifier as Writes}
use Rattle.wap_libs.specs.FormatGrammar.{conversion_of}

-- what follows the digits that a text begins with
abbrev pub behind_digits : List ℕ → List ℕ
behind_digits s = drop (prefix_len is_ascii_digit s) s

-- widths and precisions end at 65535: this project's own, as in the grammar
abbrev pub up_to_65535 : ℕ → Option ℕ
up_to_65535 n = if nat_le n 65535 then Some n else None

-- the number of the digits that a text begins with; of none it is 0
abbrev pub number_at : List ℕ → Option ℕ
number_at s = up_to_65535 (digits_value 10 (take_while is_ascii_digit s))

-- a precision, if there is one, and what follows it
abbrev pub precision_at : List ℕ → Option (Option ℕ × List ℕ)
precision_at [] = Some (None, [])
precision_at (c ∷ s) =
    if c == full_stop then (if prefix_len is_ascii_digit s == 0 then None else
    (number_at s >>= λ n. Some (Some n, behind_digits s)))
    else Some (None, c ∷ s)

-- the conversion of the letter that a text begins with, and what follows it
abbrev pub conversion_at : List ℕ → Option (Conversion × List ℕ)
conversion_at [] = None
conversion_at (c ∷ s) = option_map (λ conversion. (conversion, s)) (conversion_of c)

-- what follows a `%`: a specifier, and what follows it
abbrev pub specifier_at : List ℕ → Option (Specifier × List ℕ)
specifier_at s =
    number_at s >>= λ width.
    precision_at (behind_digits s) >>= λ precision.
    conversion_at precision.1 >>= λ conversion.
    Some
    (record { width = width; precision = precision.0; conversion = conversion.0 }, conversion.1)

-- the piece that follows a `%`, and what follows it
abbrev pub piece_behind_percent : List ℕ → Option (Piece × List ℕ)
piece_behind_percent [] = None
piece_behind_percent (c ∷ s) =
    if c == percent_sign then Some (Character percent_sign, s)
    else option_map (λ read. (Writes read.0, read.1)) (specifier_at (c ∷ s))

-- the piece that a text begins with, and what follows it
abbrev pub piece_at : ℕ → List ℕ → Option (Piece × List ℕ)
piece_at c s = if c == percent_sign then piece_behind_percent s else Some (Character c, s)

-- the pieces of a text, of which there are so many at most
abbrev pub pieces_at : ℕ → List ℕ → Option (List Piece)
pieces_at fuel [] = Some []
pieces_at zero (c ∷ s) = None
pieces_at (suc fuel) (c ∷ s) =
    piece_at c s >>= λ read. option_map (λ more. read.0 ∷ more) (pieces_at fuel read.1)

-- the pieces of a text, each of one character at least
abbrev pub pieces_of : List ℕ → Option (List Piece)
pieces_of s = pieces_at (length s) s
