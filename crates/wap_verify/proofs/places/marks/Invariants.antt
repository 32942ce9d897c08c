use Rattle.std.proofs.Common.{◌-◌, length}
use Rattle.wap_verify.specs.inside.Work.{Marks}
use Rattle.wap_verify.proofs.places.marks.Given as goal

abbrev pub invariant-loop-at : goal.invariant-loop-at
invariant-loop-at l = Marks l.unit l.index l.function l.at l.marks.items

abbrev pub decreases-loop-at : goal.decreases-loop-at
decreases-loop-at l = length l.function.code - l.at
