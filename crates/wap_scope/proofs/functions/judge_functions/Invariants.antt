use Rattle.std.proofs.Common.{◌≡◌, [], drop}
use Rattle.wap_scope.specs.inside.Globals.{scope_by}
use Rattle.wap_scope.specs.inside.Walks.{each, function_at}
use Rattle.wap_scope.proofs.functions.judge_functions.Given as goal

-- what is left finds what the whole does
abbrev pub invariant-loop-function : goal.invariant-loop-function
invariant-loop-function l =
    each (function_at (scope_by l.globals)) l.earlier (drop l.function-index l.functions)
    ≡ each (function_at (scope_by l.globals)) [] l.functions
