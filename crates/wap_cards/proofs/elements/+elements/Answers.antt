use Rattle.std.proofs.Common.{◌≡◌, List, ◌∷◌, ◌++◌, sym, ap, subst, ◌∙◌, arith}
use Rattle.std.specs.Result.{OnOk}
use Rattle.wap_tokens.specs.markup.Good.{is_among}
use Rattle.wap_cardrules.specs.Content.{Mark, begins, shown_tags, marks_in}
use Rattle.wap_cards.specs.inside.Elements.{sought_among}
use Rattle.wap_cards.proofs.Marks.{none_below, marks_closed, marks_open}
use Rattle.wap_cards.proofs.Found.{goes_on}
use Rattle.wap_cards.proofs.elements.+elements.Goals as goal

pub add_element-returns-then-levels-eq0 : goal.add_element-returns-then-levels-eq0
add_element-returns-then-levels-eq0 t c =
    c.in_ok-add_if_sought.ensures
    ∙ ap (λ (marks : List Mark).
    c.args.found.now ++ sought_among c.args.sought (begins c.args.view.now ∷ marks))
    (sym (none_below c.args.levels c.args.view.now (omega arith)))

pub add_element-returns-then-is_open : goal.add_element-returns-then-is_open
add_element-returns-then-is_open t c =
    goes_on c.args.sought c.add_elements.result c.args.found.now c.add_if_sought.new.found
    c.add_elements.new.found c.args.view.now (marks_in c.args.levels c.args.view.now)
    c.in_ok-add_if_sought.ensures
    (subst (λ (marks : List Mark). OnOk c.add_elements.result
    (c.add_elements.new.found ≡ c.add_if_sought.new.found ++ sought_among c.args.sought marks))
    (sym (marks_open c.args.levels c.args.view.now (omega arith)
    (ap (is_among shown_tags) (sym c.tag.ensures) ∙ sym c.is_open.ensures ∙ c.if-is_open.true)))
    c.add_elements.ensures)

pub add_element-returns-else-is_open : goal.add_element-returns-else-is_open
add_element-returns-else-is_open t c =
    c.in_ok-add_if_sought.ensures
    ∙ ap (λ (marks : List Mark).
    c.args.found.now ++ sought_among c.args.sought (begins c.args.view.now ∷ marks))
    (sym (marks_closed c.args.levels c.args.view.now
    (ap (is_among shown_tags) (sym c.tag.ensures) ∙ sym c.is_open.ensures ∙ c.if-is_open.false)))
