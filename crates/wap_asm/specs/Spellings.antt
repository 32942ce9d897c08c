-- The operation that a name spells, and how an operation with its operands is spelled. This
-- project's own.
use Rattle.std.specs.Prelude.{ℕ, Bool, List, [], Option, Some, None, find, filter}
use Rattle.std.specs.List.{last_or}
use Rattle.wap_unit.specs.declared.row.OpName.{OpName}
use Rattle.wap_unit.specs.contracts.row.OpName.{the_type}
use Rattle.wap_unit.specs.declared.row.Row.{Row}
use Rattle.wap_unit.specs.Rows.{rows}
use Rattle.wap_unit.specs.Instructions.{size}
use Rattle.wap_asm.specs.Spelling.{shortest, spelling}
use denote.Enum.Bare.{sameb}

-- whether a row has this name
abbrev pub has_name : OpName → Row → Bool
has_name name row = sameb the_type row.name name

-- the operation of a row that was found by its name
abbrev pub operation_by : OpName → Option Row → OpName
operation_by name None = name
operation_by name (Some row) = row.operation

-- the operation that a name is a spelling of
unfoldable pub operation_of : OpName → OpName
operation_of name = operation_by name (find (has_name name) rows)

-- whether a row is a spelling of an operation
abbrev pub is_of : OpName → Row → Bool
is_of operation row = sameb the_type row.operation operation

-- the longest spelling of an operation, which stands last in the table
unfoldable pub longest : OpName → Option Row
longest operation = last_or None (filter (is_of operation) rows)

-- the first of two, where there is one
abbrev pub or_else : Option Row → Option Row → Option Row
or_else None other = other
or_else (Some row) other = Some row

-- the shortest spelling that has room for the operands; the longest, where none has
unfoldable pub spelling_of : OpName → ℕ → ℕ → ℕ → Option Row
spelling_of operation a b c = or_else (shortest operation a b c) (longest operation)

-- how many bytes a spelling has
abbrev pub row_size : Option Row → ℕ
row_size None = 0
row_size (Some row) = size row

-- the bytes of a spelling with its operands
abbrev pub row_bytes : Option Row → ℕ → ℕ → ℕ → List ℕ
row_bytes None a b c = []
row_bytes (Some row) a b c = spelling row a b c
