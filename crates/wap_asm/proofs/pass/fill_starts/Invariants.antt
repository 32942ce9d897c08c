use Rattle.std.proofs.Common.{◌≡◌, ℕ, ◌<◌, get_or, take, sum}
use Rattle.wap_asm.proofs.pass.fill_starts.Given as goal

abbrev pub invariant-loop-i : goal.invariant-loop-i
invariant-loop-i l = record {
  at : l.at ≡ sum (take l.i l.sizes);
  each : (k : ℕ) → k < l.i → get_or l.starts k 0 ≡ sum (take k l.sizes);
}
