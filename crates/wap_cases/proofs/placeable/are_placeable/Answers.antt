use Rattle.std.proofs.Common.{arith}
use Rattle.wap_cases.proofs.Standing.{placeable}
use Rattle.wap_cases.proofs.placeable.are_placeable.Goals as goal

pub returns : goal.returns
returns c = λ is.
    placeable c.args.forms.now (λ k form within.
    let ended = c.loop-i-test.false in
    c.loop-i.invariant k form (omega arith))
