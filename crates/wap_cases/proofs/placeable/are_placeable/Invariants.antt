use Rattle.wap_cases.proofs.Standing.{MayAll}
use Rattle.wap_cases.proofs.placeable.are_placeable.Given as goal

abbrev pub invariant-loop-i : goal.invariant-loop-i
invariant-loop-i l = MayAll l.forms l.i
