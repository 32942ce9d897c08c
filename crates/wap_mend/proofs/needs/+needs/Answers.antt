-- A card can do without anything.
use Rattle.std.proofs.Common.{nat_eq, length, List, sym, ap, ◌∙◌}
use Rattle.wap_tokens.specs.declared.markup.name.Tag.{Tag}
use Rattle.wap_mend.proofs.Topping.{no_attributes, no_needs, if_ok}
use Rattle.wap_mend.proofs.needs.+needs.Goals as goal

pub is_whole-returns-then-not-branch : goal.is_whole-returns-then-not-branch
is_whole-returns-then-not-branch t c card =
    sym c.if-not-branch.true ∙ c.in_ok-keeps_attributes.ensures
    (no_attributes c.args.node.now.tag c.of-rule.result c.of-rule.ensures card)

pub is_whole-returns-then-needs_none : goal.is_whole-returns-then-needs_none
is_whole-returns-then-needs_none t c card =
    c.is_empty-needs_none.ensures ∙ ap (λ (tags : List Tag). nat_eq (length tags) 0)
    (c.needed.ensures ∙ no_needs c.args.node.now.tag c.of-rule.result c.of-rule.ensures card)

pub is_whole-returns : goal.is_whole-returns
is_whole-returns t c =
    if_ok c.has_needed.result _ (λ whole card. absurd (cc (sym c.if-needs_none.false
    ∙ c.is_empty-needs_none.ensures ∙ ap (λ (tags : List Tag). nat_eq (length tags) 0)
    (c.needed.ensures ∙ no_needs c.args.node.now.tag c.of-rule.result c.of-rule.ensures card))))
