use Rattle.std.proofs.Common.{ap, ◌∙◌, ◌++◌, arith}
use Rattle.wap_cards.proofs.InputsLemmas.Joining.{joined-next}
use Rattle.wap_cards.proofs.inputs.pieces.join_all.Goals as goal
use Rattle.wap_cards.proofs.inputs.pieces.join_all.Goals.{then-place-gt0+in_ok-push, else-place-gt0}

pub loop-place-preserved : goal.loop-place-preserved
loop-place-preserved c =
    joined-next c.args.texts.now c.loop-place.place c.index-texts-place.result c.loop-place.whole
    c.if-place-gt0.whole c.add.new.self
    c.loop-place-test.true c.index-texts-place.is c.loop-place.invariant
    (λ behind. elim c.if-place-gt0.branch [
      | then-place-gt0+in_ok-push w ↦ w.whole-is ∙ w.in_ok-push.ensures.ok
      | else-place-gt0 w ↦ absurd (omega arith)
    ])
    (λ first. elim c.if-place-gt0.branch [
      | then-place-gt0+in_ok-push w ↦ absurd (omega arith)
      | else-place-gt0 w ↦ w.whole-is
    ])
    (c.in_ok-add.ensures.ok ∙ ap (λ w. c.if-place-gt0.whole ++ w) c.as_str.ensures.characters)
