use Rattle.std.proofs.Common.{◌≤◌, sum}
use Rattle.wap_asm.specs.inside.Passes.{AreSoFar}
use Rattle.wap_asm.proofs.lengthening.settle.Given as goal

abbrev pub invariant-loop-pass : goal.invariant-loop-pass
invariant-loop-pass l = record {
  so_far : AreSoFar l.forms l.sizes;
  enough : l.pass ≤ sum l.sizes;
}
