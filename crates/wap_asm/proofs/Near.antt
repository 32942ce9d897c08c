-- The rows near that of an operation's own name, computed: each spelling of it stands there.
use Rattle.std.proofs.Common.{◌≡◌, ℕ, ◌+◌, ◌-◌, min, List, length, find, filter, None, refl}
use Rattle.std.specs.Prelude.{slice_get, slice_range, IfSome}
use Rattle.std.specs.List.{last_or}
use Rattle.wap_unit.specs.declared.row.OpName.{OpName}
use Rattle.wap_unit.specs.declared.row.OpName.TheVariants.{JumpFwS}
use Rattle.wap_unit.specs.contracts.row.OpName.{the_type}
use Rattle.wap_unit.specs.declared.row.Row.{Row}
use Rattle.wap_unit.specs.Rows.{rows}
use Rattle.wap_asm.specs.Spelling.{is_spelling, shortest}
use Rattle.wap_asm.specs.Spellings.{operation_of, is_of, longest}
use denote.Enum.Declared.{tag_of}

-- the number of the row of a name: rows stand in the order of their names
abbrev number : OpName → ℕ
number name = tag_of the_type name

-- the row of a name, with that before it and that after it
abbrev pub near : OpName → List Row
near name = slice_range rows (number name - 1) (min (length rows) (number name + 2))

-- what the row of a name spells
pub operation_near : (name operation : OpName)
    → IfSome (slice_get rows (number name)) (λ row. operation ≡ row.operation)
    → operation ≡ operation_of name
unfolding operation_of
operation_near JumpFwS operation is = is
operation_near _ operation is = is

-- the shortest spelling with room stands there
pub shortest_near : (operation : OpName) (a b c : ℕ)
    → find (is_spelling operation a b c) (near operation) ≡ shortest operation a b c
unfolding shortest
shortest_near JumpFwS a b c = refl
shortest_near _ a b c = refl

-- and so does the longest
pub longest_near : (operation : OpName)
    → last_or None (filter (is_of operation) (near operation)) ≡ longest operation
unfolding longest
longest_near JumpFwS = refl
longest_near _ = refl
