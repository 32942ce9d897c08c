-- An element gets into the root, or is noted as lost.
use Rattle.std.proofs.Common.{◌≡◌, [], ◌∷◌, ◌++◌, refl, sym, ap, subst, ◌∙◌}
use Rattle.wap_tokens.specs.declared.markup.name.Tag.TheVariants as tags
use Rattle.wap_mend.specs.inside.Building.{Built, IsBuilt}
use Rattle.wap_mend.specs.inside.Frames.{Load, both, load_built, load_if, load_all, Keeps}
use Rattle.wap_mend.specs.inside.Tops.{Topped, load_top}
use Rattle.wap_mend.proofs.Topping.{gathers_card}
use Rattle.wap_mend.proofs.Loads.{keeps_lost, noted_then, noted_built}
use Rattle.wap_mend.proofs.Accounted.{no_signs, none_there, head_added, template_added, card_added}
use Rattle.wap_mend.proofs.top.Top.add.Goals as goal

-- a head or a template has no signs
head_mute : (c : goal.Joined-self) → (load_built c.args.element).signs ≡ []
head_mute c =
    no_signs c.args.element tags.Head
    (subst (λ (e : Built). IsBuilt e.levels e.node) c.element.view_is c.element.invariant)
    (sym c.in-Head.ensures) refl

template_mute : (c : goal.Joined-self-2) → (load_built c.args.element).signs ≡ []
template_mute c =
    no_signs c.args.element tags.Template
    (subst (λ (e : Built). IsBuilt e.levels e.node) c.element.view_is c.element.invariant)
    (sym c.in-Template.ensures) refl

pub invariant_of-self : goal.invariant_of-self
invariant_of-self c = record {
  head = record { levels = c.requires.levels; tag = sym c.in-Head.ensures };
  template = c.self.invariant.template;
  cards = c.self.invariant.cards;
  head_mute = head_mute c;
  template_mute = c.self.invariant.template_mute;
}

pub invariant_of-self-then-is_none-2 : goal.invariant_of-self-then-is_none-2
invariant_of-self-then-is_none-2 c = record {
  head = c.self.invariant.head;
  template = record { levels = c.requires.levels; tag = sym c.in-Template.ensures };
  cards = c.self.invariant.cards;
  head_mute = c.self.invariant.head_mute;
  template_mute = template_mute c;
}

pub returns-in-Head-clause-keeps : goal.returns-in-Head-clause-keeps
returns-in-Head-clause-keeps c =
    let element = c.args.element in
    let before = c.args.notes.now.changes in
    let after = c.note_late.new.notes.changes in
    let rest : Load =
    both (load_if c.self.inside.template) (load_all c.self.inside.cards) in
    subst (λ (top : Topped). Keeps before after (load_top top) (both (load_built element) rest)
    (load_built element)) c.self.view_is
    (head_added before after element c.in_ok-note_late.ensures c.self.inside.head rest
    (none_there c.self.inside.head c.if-is_none.ensures) (head_mute c))

pub returns-in-Template-clause-keeps : goal.returns-in-Template-clause-keeps
returns-in-Template-clause-keeps c =
    let element = c.args.element in
    let before = c.args.notes.now.changes in
    let after = c.note_late.new.notes.changes in
    let rest : Load = load_all c.self.inside.cards in
    subst (λ (top : Topped). Keeps before after (load_top top)
    (both (load_if c.self.inside.head) (both (load_built element) rest)) (load_built element))
    c.self.view_is
    (template_added before after element c.in_ok-note_late.ensures c.self.inside.head
    c.self.inside.template rest
    (none_there c.self.inside.template c.if-is_none-2.ensures) (template_mute c))

pub returns-in_ok-add-in-Card-clause-gathers : goal.returns-in_ok-add-in-Card-clause-gathers
returns-in_ok-add-in-Card-clause-gathers c =
    let element = c.args.element in
    gathers_card c.args.self.now _ element c.requires.taken
    (c.in_ok-add-in-Card.ensures.ok
    ∙ ap (λ (top : Topped). top.cards ++ element ∷ []) c.self.view_is)
    (ap (λ (top : Topped). top.ids) c.self.view_is) (sym c.tag-tag.ensures ∙ c.in-Card.is)

pub returns-in_ok-add-in-Card-clause-keeps : goal.returns-in_ok-add-in-Card-clause-keeps
returns-in_ok-add-in-Card-clause-keeps c =
    let element = c.args.element in
    let before = c.args.notes.now.changes in
    let after = c.note_late.new.notes.changes in
    subst (λ (top : Topped). Keeps before after (load_top top)
    (both (load_if c.self.inside.head)
    (both (load_if c.self.inside.template) (load_all c.add.new.self))) (load_built element))
    c.self.view_is
    (card_added before after element c.in_ok-note_late.ensures c.self.inside.head
    c.self.inside.template c.self.inside.cards c.add.new.self c.in_ok-add-in-Card.ensures.ok)

pub returns-in_ok-note_lost-in_default-clause-keeps :
    goal.returns-in_ok-note_lost-in_default-clause-keeps
returns-in_ok-note_lost-in_default-clause-keeps c =
    let before = c.args.notes.now.changes in
    let late = c.note_late.new.notes.changes in
    let after = c.note_lost.new.self.changes in
    keeps_lost before after (load_top c.args.self.now) (load_built c.args.element)
    (noted_then before late after (load_built c.args.element) c.in_ok-note_late.ensures
    (noted_built late after c.in_ok-lost-in_default.lost c.args.element
    c.in_ok-lost-in_default.ensures c.in_ok-note_lost-in_default.ensures.lost))
