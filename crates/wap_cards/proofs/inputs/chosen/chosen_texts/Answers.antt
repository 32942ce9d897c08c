use Rattle.std.proofs.Common.{List, ℕ, get_or, false, ◌++◌, sym, ap, ◌∙◌, arith}
use Rattle.wap_cards.specs.inputs.inside.Marking.{text_if}
use Rattle.wap_cards.proofs.InputsLemmas.Saying.{chosen_next}
use Rattle.wap_cards.proofs.inputs.chosen.chosen_texts.Goals as goal

pub loop-place-preserved : goal.loop-place-preserved
loop-place-preserved c =
    c.in_ok-add_if.ensures
    ∙ ap (λ (some : List (List ℕ)).
    some ++ text_if (get_or c.args.choice.now c.loop-place.place false) c.index-texts-place.result)
    c.loop-place.invariant
    ∙ sym
    (chosen_next c.args.choice.now c.args.texts.now c.loop-place.place c.index-texts-place.result
    (omega (arith, c.min-place-end.ensures, c.loop-place-test.true))
    (omega (arith, c.min-place-end.ensures, c.loop-place-test.true)) c.index-texts-place.is)
