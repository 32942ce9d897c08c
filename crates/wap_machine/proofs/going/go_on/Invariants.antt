use Rattle.std.proofs.Common.{◌-◌, length}
use Rattle.wap_execution.specs.Frames.{code_of}
use Rattle.wap_machine.specs.inside.Goings.{Passed}
use Rattle.wap_machine.proofs.going.go_on.Given as goal

abbrev pub invariant-loop-next : goal.invariant-loop-next
invariant-loop-next l = Passed l.string l.fn.frame l.frame

abbrev pub decreases-loop-next : goal.decreases-loop-next
decreases-loop-next l = length (code_of l.frame.function) - l.frame.place
