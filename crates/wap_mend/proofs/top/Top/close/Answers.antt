-- A head, a template and cards may stand in the root in this order.
use Rattle.std.proofs.Common.{◌++◌, ap, ◌∙◌}
use Rattle.std.specs.Option.{option_to_list}
use Rattle.wap_mend.specs.inside.Building.{Filled}
use Rattle.wap_mend.specs.inside.Tops.{items_with}
use Rattle.wap_mend.proofs.Topping.{head_follows, template_follows, cards_follow}
use Rattle.wap_mend.proofs.top.Top.close.Goals as goal

pub add_if-requires-clause-follows : goal.add_if-requires-clause-follows
add_if-requires-clause-follows c =
    head_follows c.self.inside.head c.new-content.result c.self.invariant.head
    (ap (λ (filled : Filled). filled.rule) c.new-content.ensures)
    (ap (λ (filled : Filled). filled.items) c.new-content.ensures)

pub add_if-requires-2-clause-follows : goal.add_if-requires-2-clause-follows
add_if-requires-2-clause-follows c =
    let head = items_with (option_to_list c.self.inside.head) in
    template_follows c.self.inside.head c.self.inside.template c.add_if.new.content
    c.self.invariant.head c.self.invariant.template
    (ap (λ (filled : Filled). filled.rule) c.in_ok-add_if.ensures
    ∙ ap (λ (filled : Filled). filled.rule) c.new-content.ensures)
    (ap (λ (filled : Filled). filled.items) c.in_ok-add_if.ensures
    ∙ ap (λ (filled : Filled). filled.items ++ head) c.new-content.ensures)

pub add_cards-requires-clause-follows : goal.add_cards-requires-clause-follows
add_cards-requires-clause-follows c =
    let head = items_with (option_to_list c.self.inside.head) in
    let template = items_with (option_to_list c.self.inside.template) in
    cards_follow c.self.inside.head c.self.inside.template c.add_if-2.new.content.items
    c.self.invariant.head c.self.invariant.template
    (ap (λ (filled : Filled). filled.items) c.in_ok-add_if-2.ensures
    ∙ ap (λ (filled : Filled). filled.items ++ template) c.in_ok-add_if.ensures
    ∙ ap (λ (filled : Filled). (filled.items ++ head) ++ template) c.new-content.ensures)
