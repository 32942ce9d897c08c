use Rattle.std.proofs.Common.{List, Bool, get_or, ap, ◌∙◌}
use Rattle.wap_cards.specs.inputs.inside.Marking.{marked}
use Rattle.wap_cards.proofs.InputsLemmas.Marking.{marks_next}
use Rattle.wap_cards.proofs.inputs.choices.choose_numbers.Goals as goal

pub loop-number-preserved : goal.loop-number-preserved
loop-number-preserved c =
    c.mark.ensures ∙ ap (λ (choice : List Bool).
    marked (get_or c.args.numbers.now c.loop-number.number-index 0) choice) c.loop-number.invariant
    ∙ marks_next c.args.count c.args.numbers.now c.loop-number.number-index c.loop-number-test.true
