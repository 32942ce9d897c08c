use Rattle.std.proofs.Common.{take}
use Rattle.wap_scope.specs.inside.Globals.{Counts}
use Rattle.wap_scope.proofs.globals.Arities.of.Given as goal

abbrev pub invariant-loop-function : goal.invariant-loop-function
invariant-loop-function l = Counts (take l.function-index l.functions) l.arities
