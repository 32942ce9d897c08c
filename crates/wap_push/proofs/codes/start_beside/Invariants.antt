use Rattle.std.proofs.Common.{◌≡◌, drop, nat_eq}
use Rattle.std.specs.Map.{lookup}
use Rattle.wap_push.specs.inside.Rows.{starts_by_code}
use Rattle.wap_push.proofs.codes.start_beside.Given as goal

-- what is left has what all have
abbrev pub invariant-loop-row : goal.invariant-loop-row
invariant-loop-row l =
    lookup (nat_eq l.code) (starts_by_code (drop l.row-index l.rows))
    ≡ lookup (nat_eq l.code) (starts_by_code l.rows)
