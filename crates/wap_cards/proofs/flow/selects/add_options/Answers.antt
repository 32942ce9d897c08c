use Rattle.std.proofs.Common.{List, ℕ, ◌∷◌, ◌++◌, sym, ap₂, ◌∙◌, arith}
use Rattle.wap_layout.specs.declared.flow.Flow.{Flow}
use Rattle.wap_layout.specs.declared.flow.Flow.TheVariants.{Words, Soft}
use Rattle.wap_cards.proofs.FlowLemmas.Options.{option_next}
use Rattle.wap_cards.proofs.FlowLemmas.Texts.{texts_flow}
use Rattle.wap_cards.proofs.flow.selects.add_options.Goals as goal

pub loop-place-preserved : goal.loop-place-preserved
loop-place-preserved c =
    let vars = c.args.vars.now in
    let option = c.index-options-place.result in
    c.in_ok-add_option.ensures
    ∙ ap₂ (λ (flow : List Flow) (mark : List ℕ).
    flow ++ Soft ∷ Words mark ∷ texts_flow vars option.kids)
    c.loop-place.invariant c.in_ok-mark.ensures
    ∙ sym (option_next vars c.args.select c.args.choice.now c.args.options.now
    c.args.flow.now c.loop-place.place option
    (omega (arith, c.min-place-end.ensures, c.loop-place-test.true)) c.index-options-place.is)
