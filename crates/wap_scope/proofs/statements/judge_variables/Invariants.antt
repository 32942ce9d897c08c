use Rattle.std.proofs.Common.{◌≡◌, drop}
use Rattle.wap_scope.specs.Names.{declares}
use Rattle.wap_scope.specs.inside.Globals.{scope_by}
use Rattle.wap_scope.specs.inside.Walks.{walked_each}
use Rattle.wap_scope.proofs.statements.judge_variables.Given as goal

-- what is left finds what the whole does
abbrev pub invariant-loop-pair : goal.invariant-loop-pair
invariant-loop-pair l =
    walked_each (scope_by l.globals) declares l.known (drop l.pair-index l.pairs)
    ≡ walked_each (scope_by l.globals) declares l.initial.known l.pairs
