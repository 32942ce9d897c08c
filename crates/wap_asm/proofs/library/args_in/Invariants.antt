use Rattle.std.proofs.Common.{◌≡◌, drop, map}
use Rattle.std.specs.Map.{lookup}
use Rattle.wap_unit.specs.Libraries.{is_function}
use Rattle.wap_asm.specs.Columns.{lent_by_number}
use Rattle.wap_asm.proofs.library.args_in.Given as goal

-- what is left has what all have
abbrev pub invariant-loop-row : goal.invariant-loop-row
invariant-loop-row l =
    lookup (is_function l.library l.function) (map lent_by_number (drop l.row-index l.rows))
    ≡ lookup (is_function l.library l.function) (map lent_by_number l.rows)
