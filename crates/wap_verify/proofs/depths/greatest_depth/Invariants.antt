use Rattle.wap_verify.specs.inside.Work.{Works}
use Rattle.wap_verify.specs.Depths.{effort}
use Rattle.wap_verify.specs.inside.Kept.{state}
use Rattle.wap_verify.proofs.depths.greatest_depth.Given as goal

abbrev pub invariant-loop-at : goal.invariant-loop-at
invariant-loop-at l = Works l.unit l.index l.function (state l.work)

abbrev pub decreases-loop-at : goal.decreases-loop-at
decreases-loop-at l = effort (state l.work)
