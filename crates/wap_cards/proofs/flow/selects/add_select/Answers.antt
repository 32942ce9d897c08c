use Rattle.std.proofs.Common.{List, Bool, ◌∷◌, [], ◌++◌, ap, ap₂, ◌∙◌, append_assoc}
use Rattle.std.specs.List.{zip}
use Rattle.wap_tokens.specs.declared.markup.deck.Node.{Node}
use Rattle.wap_layout.specs.declared.flow.Flow.{Flow}
use Rattle.wap_layout.specs.declared.flow.Flow.TheVariants.{Soft}
use Rattle.wap_cardrules.specs.Selects.{choice_of, options_of}
use Rattle.wap_cards.proofs.FlowLemmas.Options.{options_flow}
use Rattle.wap_cards.proofs.flow.selects.add_select.Goals as goal

pub returns : goal.returns
returns c =
    let flow = c.args.flow.now in
    let vars = c.args.vars.now in
    let select = c.args.select.now in
    let options : List Bool → List Node → List Flow =
    λ choice options. options_flow vars c.args.number (zip choice options) in
    c.in_ok-add.ensures.ok
    ∙ ap (λ (flow : List Flow). flow ++ Soft ∷ []) (c.in_ok-add_options.ensures
    ∙ ap₂ (λ choice ones. flow ++ options choice ones)
    (c.as_slice.ensures ∙ c.in_ok-choice.ensures) (c.as_slice-2.ensures ∙ c.in_ok-options.ensures))
    ∙ append_assoc flow (options (choice_of vars select) (options_of select)) (Soft ∷ [])
