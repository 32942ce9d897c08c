use Rattle.std.proofs.Common.{arith}
use Rattle.wap_asm.proofs.OnTheWay.{so_far_first, so_far_wide, settled_wide}
use Rattle.wap_asm.proofs.lengthening.settle.Goals as goal

pub loop-pass-init : goal.loop-pass-init
loop-pass-init c = record {
  so_far = so_far_first c.args.forms.now c.args.sizes.now c.requires.first;
  enough = omega arith;
}

pub fill_starts-requires-clause-few : goal.fill_starts-requires-clause-few
fill_starts-requires-clause-few c =
    omega (arith, so_far_wide c.args.forms.now c.loop-pass.sizes c.loop-pass.invariant.so_far)

pub returns : goal.returns
returns c =
    settled_wide c.args.forms.now c.loop-pass.sizes c.loop-pass.invariant.so_far (omega arith)
