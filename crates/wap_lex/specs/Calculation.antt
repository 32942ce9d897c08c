-- The same by calculation: how far each shape reaches, and what bytes begin with. This project's
-- own.
use Rattle.std.specs.Prelude.{ℕ, zero, suc, ◌+◌, nat_le, nat_lt, Bool, false, ◌==◌, ◌||◌}
use Rattle.std.specs.Prelude.{◌&&◌, if◌then◌else◌, nat_eq, List, [], ◌∷◌, length, take}
use Rattle.std.specs.Prelude.{drop, Option, Some, None, Result, Ok, Err}
use Rattle.std.specs.Char.{is_ascii_digit, is_ascii_hexdigit}
use Rattle.std.specs.List.{prefix_len, starts_with}
use Rattle.wap_base.specs.Ascii.{asterisk, full_stop, slash, digit_zero, backslash, small_u}
use Rattle.wap_base.specs.Ascii.{small_x}
use Rattle.wap_base.specs.Names.{begins_name, continues_name}
use Rattle.wap_base.specs.Outcome.{◌>>=◌}
use Rattle.wap_lex.specs.declared.class.Class.TheVariants.{InLine}
use Rattle.wap_lex.specs.declared.token.Token.{Token}
use Rattle.wap_lex.specs.declared.shape.Shape.{Shape}
use Rattle.wap_lex.specs.declared.shape.Shape.TheVariants.{Blank, Comment, Word, Integer}
use Rattle.wap_lex.specs.declared.shape.Shape.TheVariants.{Float, Str, Mark}
use Rattle.wap_lex.specs.declared.fault.LexFault.{LexFault}
use Rattle.wap_lex.specs.declared.fault.LexFault.TheVariants as fault
use Rattle.wap_lex.specs.Characters.{is_octal_digit, is_white, is_quote, is_line_end, is_in}
use Rattle.wap_lex.specs.Numbers.{is_x, is_e, is_sign, integer_value, integer_limit}
use Rattle.wap_lex.specs.Strings.{is_simple, is_surrogate}
use Rattle.wap_lex.specs.Marks.{marks}
use Rattle.wap_lex.specs.Tokens.{kind_of, token_before}

-- ---- how many bytes a shape has at the beginning, 0 where it doesn't begin

-- of a name or reserved word
abbrev pub word_len : List ℕ → ℕ
word_len [] = 0
word_len (first ∷ rest) = if begins_name first then 1 + prefix_len continues_name rest else 0

-- so many more, but none where there are none
abbrev pub more_by : ℕ → ℕ → ℕ
more_by by len = if len == 0 then 0 else by + len

-- of the `x` of a hexadecimal integer and its digits
abbrev pub hexadecimal_len : List ℕ → ℕ
hexadecimal_len [] = 0
hexadecimal_len (x ∷ digits) =
    if is_x x then more_by 1 (prefix_len is_ascii_hexdigit digits) else 0

-- of an integer after a 0: hexadecimal where that has digits, else octal
abbrev pub octal_or : ℕ → List ℕ → ℕ
octal_or hexadecimal rest =
    if hexadecimal == 0 then 1 + prefix_len is_octal_digit rest else 1 + hexadecimal

-- of an integer
abbrev pub integer_len : List ℕ → ℕ
integer_len [] = 0
integer_len (first ∷ rest) =
    if first == digit_zero then octal_or (hexadecimal_len rest) rest else
    prefix_len is_ascii_digit (first ∷ rest)

-- of digits, maybe after a sign
abbrev pub signed_len : List ℕ → ℕ
signed_len [] = 0
signed_len (first ∷ rest) =
    if is_sign first then more_by 1 (prefix_len is_ascii_digit rest) else
    prefix_len is_ascii_digit (first ∷ rest)

-- of an exponent
abbrev pub exponent_len : List ℕ → ℕ
exponent_len [] = 0
exponent_len (first ∷ rest) = if is_e first then more_by 1 (signed_len rest) else 0

-- of so many digits, a point, and what follows it
abbrev pub fraction_len : ℕ → List ℕ → ℕ
fraction_len whole rest =
    let fraction = prefix_len is_ascii_digit rest in
    if whole + fraction == 0 then 0 else whole + 1 + fraction + exponent_len (drop fraction rest)

-- of so many digits and an exponent, where both are there
abbrev pub scaled_len : ℕ → ℕ → ℕ
scaled_len whole exponent = if (whole == 0) || (exponent == 0) then 0 else whole + exponent

-- after so many digits
abbrev pub float_behind : ℕ → List ℕ → ℕ
float_behind whole [] = 0
float_behind whole (c ∷ rest) =
    if c == full_stop then fraction_len whole rest else
    scaled_len whole (exponent_len (c ∷ rest))

-- of a float
abbrev pub float_len : List ℕ → ℕ
float_len bytes = let whole = prefix_len is_ascii_digit bytes in
    float_behind whole (drop whole bytes)

-- of the digits of an escape by `u`, and its `u`
abbrev pub unicode_len : List ℕ → ℕ
unicode_len [] = 0
unicode_len (a ∷ []) = 0
unicode_len (a ∷ b ∷ digits) =
    if nat_lt (prefix_len is_ascii_hexdigit (a ∷ b ∷ digits)) 4 || is_surrogate a b then 0 else 5

-- of an escape, without its backslash
abbrev pub escape_len : List ℕ → ℕ
escape_len [] = 0
escape_len (c ∷ digits) =
    if is_simple c || is_octal_digit c then 1 else
    if c == small_x then (if nat_lt (prefix_len is_ascii_hexdigit digits) 2 then 0 else 3) else
    if c == small_u then unicode_len digits else 0

-- of an item of a string: an escape, or a character
abbrev pub item_len : ℕ → List ℕ → ℕ
item_len quote [] = 0
item_len quote (c ∷ rest) =
    if c == backslash then more_by 1 (escape_len rest) else
    if (c == quote) || is_line_end c then 0 else 1

-- of items, so many at most
abbrev pub items_len : ℕ → ℕ → List ℕ → ℕ
items_len zero quote bytes = 0
items_len (suc most) quote bytes =
    let item = item_len quote bytes in
    if item == 0 then 0 else item + items_len most quote (drop item bytes)

-- of a string with items of so many bytes, if its quote stands after them
abbrev pub closed_len : ℕ → ℕ → List ℕ → ℕ
closed_len quote items [] = 0
closed_len quote items (end ∷ rest) = if end == quote then 1 + items + 1 else 0

-- of a string
abbrev pub string_len : List ℕ → ℕ
string_len [] = 0
string_len (quote ∷ inside) =
    let items = items_len (length inside) quote inside in
    if is_quote quote then closed_len quote items (drop items inside) else 0

-- up to the next `*/` and with it; star says whether a `*` stands before the bytes
abbrev pub block_len : Bool → List ℕ → ℕ
block_len star [] = 0
block_len star (c ∷ rest) =
    if star && (c == slash) then 1 else more_by 1 (block_len (c == asterisk) rest)

-- of a comment
abbrev pub comment_len : List ℕ → ℕ
comment_len [] = 0
comment_len (a ∷ []) = 0
comment_len (a ∷ b ∷ rest) =
    if a == slash then
    if b == slash then 2 + prefix_len (is_in InLine) rest else
    if b == asterisk then more_by 2 (block_len false rest) else 0
    else 0

-- whether a comment begins that nothing ends
abbrev pub is_open_comment : List ℕ → Bool
is_open_comment [] = false
is_open_comment (a ∷ []) = false
is_open_comment (a ∷ b ∷ rest) =
    (a == slash) && ((b == asterisk) && (block_len false rest == 0))

-- of the first of some marks that stands there
abbrev pub first_len : List (List ℕ) → List ℕ → ℕ
first_len [] bytes = 0
first_len (mark ∷ others) bytes =
    if starts_with nat_eq bytes mark then length mark else first_len others bytes

-- of the longest mark
abbrev pub mark_len : List ℕ → ℕ
mark_len = first_len marks

-- of each shape
abbrev pub shape_len : Shape → List ℕ → ℕ
shape_len Blank = prefix_len is_white
shape_len Comment = comment_len
shape_len Word = word_len
shape_len Integer = integer_len
shape_len Float = float_len
shape_len Str = string_len
shape_len Mark = mark_len

-- all shapes, in the order in which they are tried
unfoldable pub shapes : List Shape
shapes = Blank ∷ Comment ∷ Word ∷ Integer ∷ Float ∷ Str ∷ Mark ∷ []

-- the better of the best so far and one more
abbrev pub longer : List ℕ → Shape × ℕ → Shape → Shape × ℕ
longer bytes best shape =
    if nat_lt best.1 (shape_len shape bytes) then (shape, shape_len shape bytes) else best

-- the longest of the best so far and some shapes; of equal ones the first
abbrev pub longest_of : List ℕ → Shape × ℕ → List Shape → Shape × ℕ
longest_of bytes best [] = best
longest_of bytes best (shape ∷ others) = longest_of bytes (longer bytes best shape) others

-- the longest shape, and how many bytes it has
abbrev pub longest : List ℕ → Shape × ℕ
longest bytes = longest_of bytes (Blank, 0) shapes

-- ---- pieces and tokens

-- the value of an integer that is no greater than any integer may be
abbrev pub small : ℕ → Option ℕ
small value = if nat_le value integer_limit then Some value else None

-- what is wrong with a string after items of so many bytes
abbrev pub string_fault : ℕ → ℕ → List ℕ → LexFault
string_fault at items [] = fault.OpenString at
string_fault at items (c ∷ rest) =
    if c == backslash then fault.BadEscape (at + 1 + items) else fault.OpenString at

-- what is wrong where no shape begins
abbrev pub bad_front : ℕ → List ℕ → LexFault
bad_front at [] = fault.BadChar at
bad_front at (c ∷ rest) =
    let items = items_len (length rest) c rest in
    if is_quote c then string_fault at items (drop items rest) else fault.BadChar at

-- the piece, unless it is an integer that is too great
abbrev pub in_range : ℕ → Shape → ℕ → List ℕ → Result (Shape × ℕ) LexFault
in_range at Blank len bytes = Ok (Blank, len)
in_range at Comment len bytes = Ok (Comment, len)
in_range at Word len bytes = Ok (Word, len)
in_range at Integer len bytes =
    if nat_le (integer_value (take len bytes)) integer_limit then Ok (Integer, len) else
    Err (fault.IntRange at)
in_range at Float len bytes = Ok (Float, len)
in_range at Str len bytes = Ok (Str, len)
in_range at Mark len bytes = Ok (Mark, len)

-- what bytes at a place begin with, and how many bytes that has
unfoldable pub piece_at : ℕ → List ℕ → Result (Shape × ℕ) LexFault
piece_at at bytes =
    let best = longest bytes in
    if is_open_comment bytes then Err (fault.OpenComment at) else
    if best.1 == 0 then Err (bad_front at bytes) else in_range at best.0 best.1 bytes

-- the tokens of bytes that begin at a place, so many pieces at most
unfoldable pub pieces_at : ℕ → ℕ → List ℕ → Result (List Token) LexFault
pieces_at most at [] = Ok []
pieces_at zero at (c ∷ bytes) = Ok []
pieces_at (suc most) at (c ∷ bytes) =
    piece_at at (c ∷ bytes) >>= λ found.
    pieces_at most (at + found.1) (drop found.1 (c ∷ bytes)) >>= λ tokens.
    Ok (token_before (kind_of found.0 (take found.1 (c ∷ bytes))) at (at + found.1) tokens)
