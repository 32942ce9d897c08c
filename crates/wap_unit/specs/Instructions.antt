-- The instruction at a place of a function's code (WAP-193, section 10).
use Rattle.std.specs.Prelude.{ℕ, ◌+◌, ◌-◌, ◌*◌, nat_lt, nat_le, Bool, ◌&&◌, if◌then◌else◌, List}
use Rattle.std.specs.Prelude.{length, slice_index, find, Option, Some, None, Result, Ok, Err}
use Rattle.wap_unit.specs.declared.row.Slot.{Slot}
use Rattle.wap_unit.specs.declared.row.Slot.TheVariants.{Absent, Low, Byte, Word}
use Rattle.wap_unit.specs.declared.row.Row.{Row}
use Rattle.wap_unit.specs.declared.instr.Instr.{Instr}
use Rattle.wap_unit.specs.declared.instr.InstrFault.{InstrFault}
use Rattle.wap_unit.specs.declared.instr.InstrFault.TheVariants.{Opcode, Operand}
use Rattle.wap_unit.specs.Rows.{rows}

-- how many bytes an operand takes
abbrev pub width : Slot → ℕ
width Absent = 0
width Low = 0
width Byte = 1
width Word = 2

-- how many bytes an instruction takes, with its code
abbrev pub size : Row → ℕ
size row = 1 + width row.a + width row.b + width row.c

-- whether a code is of a row
abbrev pub has_code : ℕ → Row → Bool
has_code code row = nat_le row.first code && nat_lt (code - row.first) row.count

-- the row that a code is of
unfoldable pub row_of : ℕ → Option Row
row_of code = find (has_code code) rows

-- the operand at a place, where the code's low bits are `low`
abbrev pub value : List ℕ → ℕ → Slot → ℕ → ℕ
value code at Absent low = 0
value code at Low low = low
value code at Byte low = slice_index code at
value code at Word low = 256 * slice_index code at + slice_index code (at + 1)

-- an instruction of a row at a place, with its operands, and the place after it
abbrev pub read : Row → List ℕ → ℕ → Instr
read row code at =
    let low = slice_index code at - row.first in
    record {
      name = row.name;
      a = value code (at + 1) row.a low;
      b = value code (at + 1 + width row.a) row.b low;
      c = value code (at + 1 + width row.a + width row.b) row.c low;
      next = at + size row;
    }

-- an instruction of a row at a place, where the bytes don't end inside it
abbrev pub read_row : Row → List ℕ → ℕ → Result Instr InstrFault
read_row row code at =
    if nat_lt (length code - at) (size row) then Err Operand else Ok (read row code at)

-- an instruction at a place whose byte is a code of this row, or of none
abbrev pub read_by : Option Row → List ℕ → ℕ → Result Instr InstrFault
read_by None code at = Err Opcode
read_by (Some row) code at = read_row row code at

-- the instruction that the row of the byte has, with its operands
abbrev pub instr_at : List ℕ → ℕ → Result Instr InstrFault
instr_at code at = read_by (row_of (slice_index code at)) code at
