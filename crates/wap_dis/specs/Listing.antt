-- The listing of a unit. This project's own.
use Rattle.std.specs.Prelude.{ℕ, zero, suc, ◌+◌, ◌-◌, ◌/◌, ◌%◌, ◌==◌, nat_lt, if◌then◌else◌, List}
use Rattle.std.specs.Prelude.{[], ◌∷◌, ◌++◌, length, take, drop, slice_index, codes, decimal}
use Rattle.std.specs.Prelude.{encode_utf8_all, Option, Some, None, Result, Ok, Err}
use Rattle.std.specs.Int.{w32, to_be_bytes}
use Rattle.std.specs.Fmt.{signed_decimal}
use Rattle.std.specs.List.{flat_map, enumerate_from}
use Rattle.std.specs.Map.{lookup}
use Rattle.wap_base.specs.Ascii.{line_feed, space, digit_zero, small_a}
use Rattle.wap_base.specs.Controls.{shown_text}
use Rattle.wap_unit.specs.declared.unit.Unit.{Unit}
use Rattle.wap_unit.specs.declared.unit.Constant.{Constant}
use Rattle.wap_unit.specs.declared.unit.Constant.TheVariants.{Int8, Int16, Int32, Float, Utf8}
use Rattle.wap_unit.specs.declared.unit.Constant.TheVariants.{Empty, Coded}
use Rattle.wap_unit.specs.declared.unit.Pragma.{Pragma}
use Rattle.wap_unit.specs.declared.unit.Pragma.TheVariants.{Domain, Path, Property, Scheme}
use Rattle.wap_unit.specs.declared.unit.Code.{Code}
use Rattle.wap_unit.specs.declared.row.Row.{Row}
use Rattle.wap_unit.specs.declared.row.Slot.{Slot}
use Rattle.wap_unit.specs.declared.row.Slot.TheVariants.{Absent}
use Rattle.wap_unit.specs.declared.instr.Instr.{Instr}
use Rattle.wap_unit.specs.declared.instr.InstrFault.{InstrFault}
use Rattle.wap_unit.specs.Instructions.{row_of, read_row}
use Rattle.wap_dis.specs.Names.{name_of}

-- ---- words and lines

-- a digit of base 16, in small letters
abbrev pub hex_digit : ℕ → ℕ
hex_digit value = if nat_lt value 10 then digit_zero + value else small_a - 10 + value

-- a byte as two such digits
abbrev pub hex_byte : ℕ → List ℕ
hex_byte byte = hex_digit (byte / 16) ∷ hex_digit (byte % 16) ∷ []

-- bytes, each as two digits, with nothing between them
abbrev pub hex : List ℕ → List ℕ
hex bytes = flat_map hex_byte bytes

-- the UTF-8 of a text, its control characters as dots
abbrev pub shown : List ℕ → List ℕ
shown text = encode_utf8_all (shown_text text)

-- a word with a space before it
abbrev pub spaced : List ℕ → List ℕ
spaced word = space ∷ word

-- a word, more words with a space before each, and the end of the line
abbrev pub line : List ℕ → List (List ℕ) → List ℕ
line first words = first ++ (flat_map spaced words ++ line_feed ∷ [])

-- ---- constants and pragmas

-- the kind of a constant, and its value: a number as it is, all else by its bytes or its text
abbrev pub constant_words : Constant → List (List ℕ)
constant_words (Int8 number) = codes "int8" ∷ signed_decimal number ∷ []
constant_words (Int16 number) = codes "int16" ∷ signed_decimal number ∷ []
constant_words (Int32 number) = codes "int32" ∷ signed_decimal number ∷ []
constant_words (Float number) = codes "float" ∷ hex (to_be_bytes w32 number) ∷ []
constant_words (Utf8 text) = codes "utf8" ∷ shown text ∷ []
constant_words Empty = codes "empty" ∷ []
constant_words (Coded text) = codes "coded" ∷ hex text ∷ []

-- the index of a constant, and its words
abbrev pub constant_line : ℕ × Constant → List ℕ
constant_line (index, constant) = line (codes "const") (decimal index ∷ constant_words constant)

-- the kind of a pragma, and the indexes of its strings
abbrev pub pragma_words : Pragma → List (List ℕ)
pragma_words (Domain text) = codes "domain" ∷ decimal text ∷ []
pragma_words (Path text) = codes "path" ∷ decimal text ∷ []
pragma_words (Property name content) = codes "property" ∷ decimal name ∷ decimal content ∷ []
pragma_words (Scheme name content scheme) =
    codes "scheme" ∷ decimal name ∷ decimal content ∷ decimal scheme ∷ []

-- the place of a pragma, and its words
abbrev pub pragma_line : ℕ × Pragma → List ℕ
pragma_line (index, pragma) = line (codes "pragma") (decimal index ∷ pragma_words pragma)

-- ---- functions

-- the name of a function, or a dash where it has none
abbrev pub name_word : Option (List ℕ) → List ℕ
name_word None = codes "-"
name_word (Some name) = shown name

-- the name of the first entry for the function with this index
abbrev pub first_name : List (ℕ × List ℕ) → ℕ → Option (List ℕ)
first_name names index = lookup (λ other. other == index) names

-- the index of a function, its first name, its counts, and the length of its code
abbrev pub head_line : Unit → ℕ → Code → List ℕ
head_line unit index function = line (codes "function") (
    decimal index ∷ name_word (first_name unit.names index) ∷
    codes "args" ∷ decimal function.args ∷ codes "locals" ∷ decimal function.locals
    ∷ codes "size" ∷ decimal (length function.code) ∷ []
    )

-- 1 where there is an operand, else 0
abbrev pub is_there : Slot → ℕ
is_there Absent = 0
is_there _ = 1

-- how many operands an instruction of this row has
abbrev pub operand_count : Row → ℕ
operand_count row = is_there row.a + is_there row.b + is_there row.c

-- the name of an instruction, and as many operands as it has
abbrev pub instr_words : Row → Instr → List (List ℕ)
instr_words row instr =
    take (1 + operand_count row)
    (name_of instr.name ∷ decimal instr.a ∷ decimal instr.b ∷ decimal instr.c ∷ [])

-- the place of an instruction, and its words
abbrev pub instr_line : ℕ → Row → Instr → List ℕ
instr_line at row instr = line (decimal at) (instr_words row instr)

-- a byte of code at its place
abbrev pub byte_line : ℕ × ℕ → List ℕ
byte_line (at, byte) = line (decimal at) (codes "BYTE" ∷ hex_byte byte ∷ [])

-- each byte from a place on
abbrev pub byte_lines : List ℕ → ℕ → List ℕ
byte_lines code at = flat_map byte_line (enumerate_from at (drop at code))

-- an instruction of this row that was read, or none
abbrev pub read_whole : Row → Result Instr InstrFault → Option (Row × Instr)
read_whole row (Ok instr) = Some (row, instr)
read_whole row (Err fault) = None

-- the instruction at a place whose byte is a code of this row
abbrev pub whole_by : List ℕ → ℕ → Option Row → Option (Row × Instr)
whole_by code at None = None
whole_by code at (Some row) = read_whole row (read_row row code at)

-- the instruction at a place, with its row, if there is one
unfoldable pub whole_at : List ℕ → ℕ → Option (Row × Instr)
whole_at code at = whole_by code at (row_of (slice_index code at))

-- the line of an instruction, and those from the place after it on; or each byte
abbrev pub then_more : List ℕ → ℕ → (ℕ → List ℕ) → Option (Row × Instr) → List ℕ
then_more code at more None = byte_lines code at
then_more code at more (Some found) = instr_line at found.0 found.1 ++ more found.1.next

-- so many instructions at most, from a place on; from the first byte that is none on, each byte
unfoldable pub code_from : ℕ → List ℕ → ℕ → List ℕ
code_from zero code at = []
code_from (suc left) code at =
    if nat_lt at (length code) then then_more code at (code_from left code) (whole_at code at)
    else []

-- the line that begins a function, and those of its code
abbrev pub function_lines : Unit → ℕ × Code → List ℕ
function_lines unit (index, function) =
    head_line unit index function ++ code_from (length function.code) function.code 0

-- ---- units

-- the version byte of a unit, and the number of its character set
abbrev pub unit_line : Unit → List ℕ
unit_line unit =
    line (codes "unit")
    (codes "version" ∷ decimal unit.version ∷ codes "charset" ∷ decimal unit.charset ∷ [])

-- the line of the unit, of each constant, of each pragma, and those of each function
unfoldable pub listing : Unit → List ℕ
listing unit =
    unit_line unit
    ++ (flat_map constant_line (enumerate_from 0 unit.constants)
    ++ (flat_map pragma_line (enumerate_from 0 unit.pragmas)
    ++ flat_map (function_lines unit) (enumerate_from 0 unit.functions)))
