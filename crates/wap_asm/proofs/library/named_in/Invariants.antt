use Rattle.std.proofs.Common.{◌≡◌, drop, map}
use Rattle.std.specs.Map.{lookup}
use Rattle.wap_asm.specs.Columns.{lent_by_name, has_names}
use Rattle.wap_asm.proofs.library.named_in.Given as goal

-- what is left has what all have
abbrev pub invariant-loop-row : goal.invariant-loop-row
invariant-loop-row l =
    lookup (has_names l.library l.function) (map lent_by_name (drop l.row-index l.rows))
    ≡ lookup (has_names l.library l.function) (map lent_by_name l.rows)
