use Rattle.std.proofs.Common.{◌≡◌, ℕ, ◌+◌, ◌*◌, ◌-◌, ◌≤◌, length, get_or, take, sum}
use Rattle.wap_asm.specs.Placing.{wide}
use Rattle.wap_asm.specs.inside.Passes.{AreSoFar}
use Rattle.wap_asm.proofs.lengthening.lengthen_in_order.Given as goal

abbrev pub invariant-loop-i : goal.invariant-loop-i
invariant-loop-i l = record {
  so_far : AreSoFar l.forms l.sizes;
  more : sum l.initial.sizes ≤ sum l.sizes;
  long : length l.starts ≡ length l.forms + 1;
  within : l.i ≤ length l.forms;
  each : (k : ℕ) → k ≤ l.i → get_or l.starts k 0 ≡ sum (take k l.sizes);
}

-- what may grow yet, and the forms that are left
abbrev pub decreases-loop-i : goal.decreases-loop-i
decreases-loop-i l =
    (length l.forms + 1) * (wide l.forms - sum l.sizes) + (length l.forms - l.i)
