use Rattle.std.proofs.Common.{◌≡◌, drop}
use Rattle.std.specs.Map.{lookup}
use Rattle.std.specs.Str.{bytes_eq}
use Rattle.wap_push.specs.inside.Rows.{actions_by_text}
use Rattle.wap_push.proofs.codes.action_beside.Given as goal

-- what is left has what all have
abbrev pub invariant-loop-row : goal.invariant-loop-row
invariant-loop-row l =
    lookup (bytes_eq l.text) (actions_by_text (drop l.row-index l.rows))
    ≡ lookup (bytes_eq l.text) (actions_by_text l.rows)
