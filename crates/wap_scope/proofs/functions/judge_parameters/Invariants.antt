use Rattle.std.proofs.Common.{◌≡◌, drop}
use Rattle.wap_scope.specs.inside.Globals.{scope_by}
use Rattle.wap_scope.specs.inside.Walks.{each, parameter_at}
use Rattle.wap_scope.proofs.functions.judge_parameters.Given as goal

-- what is left finds what the whole does
abbrev pub invariant-loop-param : goal.invariant-loop-param
invariant-loop-param l =
    each (parameter_at (scope_by l.globals)) l.known (drop l.param-index l.params)
    ≡ each (parameter_at (scope_by l.globals)) l.initial.known l.params
