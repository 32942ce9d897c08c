-- Content with a part of a text more stays what it has to be.
use Rattle.std.proofs.Common.{◌≡◌, sym, ap, subst, ◌∙◌}
use Rattle.wap_tokens.specs.markup.Normal.{IsPart}
use Rattle.wap_deck.specs.documents.Adding.{part_after}
use Rattle.wap_mend.specs.inside.Building.{Filled, IsFilled}
use Rattle.wap_mend.proofs.Building.{part_filled}
use Rattle.wap_mend.proofs.content.Content.add_part.Goals as goal

pub invariant_of-self-2 : goal.invariant_of-self-2
invariant_of-self-2 c =
    let inside = c.self.inside in
    let copy = c.in_ok-copy.copy in
    let added : c.add_text.new.items ≡ part_after inside.items copy =
    c.in_ok-add_text.ensures
    ∙ ap (λ items. part_after items copy) c.replace-items.ensures.value in
    let filled : IsFilled inside.rule c.replace-reached.result inside.room inside.items =
    subst (λ reached. IsFilled inside.rule reached inside.room inside.items)
    (sym c.replace-reached.ensures.value) c.self.invariant in
    subst (IsFilled inside.rule c.replace-reached.result inside.room) (sym added)
    (part_filled inside.rule c.replace-reached.result inside.room inside.items copy filled
    (ap (λ (filled : Filled). filled.rule.text) c.self.view_is ∙ c.requires.text)
    (subst IsPart (sym c.in_ok-copy.ensures) c.requires.part))
