use Rattle.std.proofs.Common.{List, Bool, ◌∷◌, [], ◌++◌, sym, ap₂, ◌∙◌}
use Rattle.wap_cards.proofs.InputsLemmas.Marking.{turned_at}
use Rattle.wap_cards.proofs.inputs.choices.turn_option.Goals as goal

pub loop-place-preserved : goal.loop-place-preserved
loop-place-preserved c =
    c.in_ok-add.ensures.ok ∙ ap₂ (λ (turned : List Bool) (last : Bool). turned ++ last ∷ [])
    c.loop-place.invariant c.turn_if.ensures
    ∙ sym (turned_at c.args.number c.args.choice.now c.loop-place.place c.loop-place-test.true)
