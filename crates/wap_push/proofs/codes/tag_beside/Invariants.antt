use Rattle.std.proofs.Common.{◌≡◌, drop, nat_eq}
use Rattle.std.specs.Map.{lookup}
use Rattle.wap_push.proofs.codes.tag_beside.Given as goal

-- what is left has what all have
abbrev pub invariant-loop-row : goal.invariant-loop-row
invariant-loop-row l =
    lookup (nat_eq l.code) (drop l.row-index l.rows) ≡ lookup (nat_eq l.code) l.rows
