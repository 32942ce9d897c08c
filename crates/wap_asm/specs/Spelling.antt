-- The bytes of an instruction, and the shortest spelling of an operation (WAP-193, section 10).
use Rattle.std.specs.Prelude.{ℕ, ◌+◌, ◌/◌, ◌%◌, nat_lt, Bool, ◌&&◌, List}
use Rattle.std.specs.Prelude.{[], ◌∷◌, ◌++◌, Option, find}
use Rattle.wap_unit.specs.declared.row.OpName.{OpName}
use Rattle.wap_unit.specs.contracts.row.OpName.{the_type}
use Rattle.wap_unit.specs.declared.row.Slot.{Slot}
use Rattle.wap_unit.specs.declared.row.Slot.TheVariants.{Absent, Low, Byte, Word}
use Rattle.wap_unit.specs.declared.row.Row.{Row}
use Rattle.wap_unit.specs.Rows.{rows}
use denote.Enum.Bare.{sameb}

-- past the greatest number that the bits of a place can be: those of a code, which has `count`
-- values, of a byte or of two
abbrev pub limit : ℕ → Slot → ℕ
limit count Absent = 1
limit count Low = count
limit count Byte = 256
limit count Word = 65536

-- whether a row has room for these operands
abbrev pub holds : Row → ℕ → ℕ → ℕ → Bool
holds row a b c =
    nat_lt a (limit row.count row.a)
    && (nat_lt b (limit row.count row.b) && nat_lt c (limit row.count row.c))

-- whether a row spells an operation with these operands
abbrev pub is_spelling : OpName → ℕ → ℕ → ℕ → Row → Bool
is_spelling operation a b c row = sameb the_type row.operation operation && holds row a b c

-- the shortest row of an operation that has room for its operands
unfoldable pub shortest : OpName → ℕ → ℕ → ℕ → Option Row
shortest operation a b c = find (is_spelling operation a b c) rows

-- what an operand adds to the code
abbrev pub low_part : Slot → ℕ → ℕ
low_part Absent n = 0
low_part Low n = n
low_part Byte n = 0
low_part Word n = 0

-- the bytes that an operand takes after the code
abbrev pub slot_bytes : Slot → ℕ → List ℕ
slot_bytes Absent n = []
slot_bytes Low n = []
slot_bytes Byte n = n ∷ []
slot_bytes Word n = n / 256 ∷ n % 256 ∷ []

-- the bytes of an instruction: its code, and the operands that stand after it
abbrev pub spelling : Row → ℕ → ℕ → ℕ → List ℕ
spelling row a b c =
    (row.first + low_part row.a a)
    ∷ (slot_bytes row.a a ++ (slot_bytes row.b b ++ slot_bytes row.c c))
