use Rattle.std.proofs.Common.{◌≡◌, [], false, drop}
use Rattle.wap_scope.specs.inside.Walks.{each, use_at}
use Rattle.wap_scope.proofs.functions.judge_uses.Given as goal

-- what is left finds what the whole does
abbrev pub invariant-loop-pragma : goal.invariant-loop-pragma
invariant-loop-pragma l =
    each use_at (l.known, l.limited) (drop l.pragma-index l.uses)
    ≡ each use_at ([], false) l.uses
