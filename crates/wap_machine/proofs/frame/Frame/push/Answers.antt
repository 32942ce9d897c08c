use Rattle.std.proofs.Common.{◌+◌, length, reverse, sym, subst, arith}
use Rattle.std.proofs.lemmas.List.{length-reverse}
use Rattle.wap_execution.specs.Frames.{Frame}
use Rattle.wap_machine.specs.Standing.{IsReached}
use Rattle.wap_machine.proofs.frame.Frame.push.Goals as goal

pub push_reserved-requires : goal.push_reserved-requires
push_reserved-requires c =
    let reached =
    subst (λ (f : Frame). IsReached f.function (length f.operands + 1))
    (sym c.self.view_is) c.requires in
    let covers =
    c.self.invariant.covers reached.code reached.at
    (length (reverse c.self.inside.operands.items) + 1) reached.found reached.reached in
    omega (arith, length-reverse c.self.inside.operands.items, covers)
