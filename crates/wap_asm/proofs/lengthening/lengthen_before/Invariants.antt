use Rattle.std.proofs.Common.{◌≡◌, ◌≤◌}
use Rattle.wap_asm.proofs.lengthening.lengthen_before.Given as goal

abbrev pub invariant-loop-jump : goal.invariant-loop-jump
invariant-loop-jump l = record { within : l.above ≤ l.i; same : l.sizes ≡ l.initial.sizes }

abbrev pub decreases-loop-jump : goal.decreases-loop-jump
decreases-loop-jump l = l.above
