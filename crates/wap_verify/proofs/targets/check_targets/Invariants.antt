use Rattle.std.proofs.Common.{ℕ, List, ◌-◌, length}
use Rattle.wap_verify.specs.Sound.{Runs}
use Rattle.wap_verify.specs.inside.Work.{Aimed}
use Rattle.wap_verify.proofs.targets.check_targets.Given as goal

abbrev pub invariant-loop-at : goal.invariant-loop-at
invariant-loop-at l =
    (places : List ℕ) → Runs l.unit l.index l.function 0 places (length l.function.code)
    → Aimed l.unit l.index l.function places l.at

abbrev pub decreases-loop-at : goal.decreases-loop-at
decreases-loop-at l = length l.function.code - l.at
