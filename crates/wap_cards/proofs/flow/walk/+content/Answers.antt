use Rattle.std.proofs.Common.{List, ◌∷◌, sym, ap, ◌∙◌}
use Rattle.std.specs.List.{fold}
use Rattle.wap_tokens.specs.markup.Good.{is_among}
use Rattle.wap_deck.specs.good.Lent.{item_of}
use Rattle.wap_deck.specs.declared.good.kids.Child.{Child}
use Rattle.wap_cardrules.specs.Content.{Mark, shown_tags, marks_in}
use Rattle.wap_cards.proofs.Marks.{left_marks, marks_closed}
use Rattle.wap_cards.specs.flow.inside.Walks.{walked}
use Rattle.wap_cards.proofs.FlowLemmas.Walks.{text_taken, text_passed, element_taken}
use Rattle.wap_cards.proofs.flow.walk.+content.Goals as goal

pub take_content-returns-else-is_open : goal.take_content-returns-else-is_open
take_content-returns-else-is_open t c =
    ap (λ (marks : List Mark). fold (walked c.args.vars.now) c.args.walk.now marks)
    (sym (marks_closed c.args.levels c.args.node.now
    (ap (is_among shown_tags) (sym c.tag.ensures) ∙ sym c.is_open.ensures ∙ c.if-is_open.false)))

pub take_kids-loop-child-preserved-in-Continue-1 :
    goal.take_kids-loop-child-preserved-in-Continue-1
take_kids-loop-child-preserved-in-Continue-1 t c =
    let inner = marks_in c.args.levels in
    let may = c.may_have_text-may_have_text.result in
    text_taken c.args.vars.now inner c.loop-child.child-iterator c.next.new.self c.loop-child.walk
    (fold (walked c.args.vars.now) c.args.walk.now
    (left_marks inner may c.into_iter-child-iterator.result))
    may c.in-Text.text c.take_text.new.self c.if-may_have_text.true c.loop-child.invariant
    (c.in-Some.ensures.steps ∙ ap (λ (child : Child). item_of child ∷ c.next.new.self) c.in-Text.is)
    c.in_ok-take_text-in-Text.ensures

pub take_kids-loop-child-preserved-else-may_have_text :
    goal.take_kids-loop-child-preserved-else-may_have_text
take_kids-loop-child-preserved-else-may_have_text t c =
    let inner = marks_in c.args.levels in
    let may = c.may_have_text-may_have_text.result in
    text_passed c.args.vars.now inner c.loop-child.child-iterator c.next.new.self c.loop-child.walk
    (fold (walked c.args.vars.now) c.args.walk.now
    (left_marks inner may c.into_iter-child-iterator.result))
    may c.in-Text.text c.if-may_have_text.false c.loop-child.invariant
    (c.in-Some.ensures.steps ∙ ap (λ (child : Child). item_of child ∷ c.next.new.self) c.in-Text.is)

pub take_kids-loop-child-preserved : goal.take_kids-loop-child-preserved
take_kids-loop-child-preserved t c =
    let inner = marks_in c.args.levels in
    let may = c.may_have_text-may_have_text.result in
    element_taken c.args.vars.now inner c.loop-child.child-iterator c.next.new.self
    c.loop-child.walk
    (fold (walked c.args.vars.now) c.args.walk.now
    (left_marks inner may c.into_iter-child-iterator.result))
    may c.in-Node.inner c.take_element.new.walk c.loop-child.invariant
    (c.in-Some.ensures.steps ∙ ap (λ (child : Child). item_of child ∷ c.next.new.self) c.in-Node.is)
    c.in_ok-take_element-in-Node.ensures
