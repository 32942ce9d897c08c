-- Content with an element more stays what it has to be.
use Rattle.std.proofs.Common.{◌≡◌, true, sym, ap, subst, ◌∙◌}
use Rattle.wap_tokens.specs.markup.Good.{may_follow, tags_of}
use Rattle.wap_mend.specs.inside.Building.{IsBuilt, IsFilled}
use Rattle.wap_mend.proofs.Building.{element_filled}
use Rattle.wap_mend.proofs.content.Content.add.Goals as goal

pub invariant_of-self-2 : goal.invariant_of-self-2
invariant_of-self-2 c =
    let inside = c.self.inside in
    let node = c.element.inside.node in
    let follows : may_follow inside.rule (tags_of inside.items) node.tag ≡ true =
    ap (λ items. may_follow inside.rule (tags_of items) node.tag) (sym c.as_slice-items.ensures)
    ∙ sym c.in-Some.ensures.follows in
    let built : IsBuilt inside.room node =
    subst (λ levels. IsBuilt levels node) c.if-levels-self.false c.element.invariant in
    subst (IsFilled inside.rule c.in-Some.reached inside.room) (sym c.in_ok-add.ensures.ok)
    (element_filled inside.rule inside.reached c.in-Some.reached inside.room inside.items node
    c.self.invariant follows c.in-Some.ensures.reached built)
