-- What is made is an element as it has to be.
use Rattle.std.proofs.Common.{suc, true, add-one, sym, ap, subst, ◌∙◌}
use Rattle.wap_base.specs.Texts.{AreDistinct}
use Rattle.wap_tokens.specs.markup.Good.{rule_of, holds_dos}
use Rattle.wap_deckcheck.specs.Places.{names_among}
use Rattle.wap_mend.specs.inside.Building.{Filled, IsKept}
use Rattle.wap_mend.proofs.Building.{element_built}
use Rattle.wap_mend.proofs.content.Element.of.Goals as goal

pub invariant_of-result : goal.invariant_of-result
invariant_of-result c =
    let inside = c.content.inside in
    let told = c.content.view_is in
    let same = sym c.tag.ensures in
    rw add-one
    (element_built c.tag.result c.into_rows.result inside.rule inside.reached inside.room
    inside.items (λ other. c.requires.known (same ∙ other))
    (ap (λ (filled : Filled). filled.rule) told ∙ c.requires.ruled ∙ ap rule_of same)
    (subst (λ tag. IsKept tag c.into_rows.result) same c.into_rows.ensures.kept)
    c.content.invariant
    (λ holds. subst
    (λ (filled : Filled). AreDistinct (names_among true (suc filled.room) filled.items)) (sym told)
    (c.requires.apart (ap holds_dos same ∙ holds)))
    (sym c.if-has_needs.ensures))
