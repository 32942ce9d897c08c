use Rattle.std.proofs.Common.{List, ◌++◌, is_some, filter, sym, ap, ◌∙◌}
use Rattle.std.proofs.lemmas.List.Elements.{filter-append}
use Rattle.wap_tokens.specs.declared.markup.deck.Node.{Node}
use Rattle.wap_tokens.specs.markup.Tasks.{task_of}
use Rattle.wap_cards.proofs.dos.active_beside.Goals as goal

pub returns : goal.returns
returns c =
    let active = λ (one : Node). is_some (task_of one) in
    let own = c.args.own.now in
    let others = c.as_slice.result.now in
    c.in_ok-add_active-2.ensures
    ∙ ap (λ (l : List Node). l ++ filter active others)
    (c.in_ok-add_active.ensures
    ∙ ap (λ (l : List Node). l ++ filter active own) c.new-active.ensures)
    ∙ sym (filter-append active own others)
    ∙ ap (λ (l : List Node). filter active (own ++ l))
    (c.as_slice.ensures ∙ c.in_ok-others.ensures)
