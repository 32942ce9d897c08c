use Rattle.std.proofs.Common.{◌∙◌, ap, sym}
use Rattle.wap_tokens.specs.declared.markup.deck.Deck.{Deck}
use Rattle.wap_tokens.specs.declared.markup.name.Tag.TheVariants as tags
use Rattle.wap_tokens.specs.markup.Trees.{first_with}
use Rattle.wap_deck.specs.good.inside.KeptBytes.{deck_in, tagged}
use Rattle.wap_deck.proofs.GoodLemmas.CardLaw.{no_card_at, place_within, place_read, place_seen}
use Rattle.wap_deck.proofs.GoodLemmas.CardLaw.{first_node}
use Rattle.wap_deck.proofs.good.good.GoodDeck.template.Goals as goal

pub returns-in_err-place : goal.returns-in_err-place
returns-in_err-place c =
    let table = c.self.inside.table in
    let deck = deck_in c.self.inside.table c.self.inside.root c.self.inside.bytes in
    c.from_residual.ensures
    ∙ sym (no_card_at table c.self.inside.bytes c.self.inside.cards.templates
    (tagged tags.Template deck) c.self.invariant.templates 0 (sym c.in_err-place.ensures.value))
    ∙ first_node (tagged tags.Template deck)
    ∙ ap (λ (d : Deck). first_with tags.Template d.root.kids) c.self.view_is

pub view_at-requires-clause-noted : goal.view_at-requires-clause-noted
view_at-requires-clause-noted c =
    rw (c.as_slice-bytes.ensures, c.as_slice-notes.ensures) c.self.invariant.noted

pub view_at-requires-clause-within : goal.view_at-requires-clause-within
view_at-requires-clause-within c =
    let table = c.self.inside.table in
    let deck = deck_in c.self.inside.table c.self.inside.root c.self.inside.bytes in
    rw c.as_slice-bytes.ensures
    (place_within table c.self.inside.bytes c.self.inside.cards.templates (tagged tags.Template
    deck) c.self.invariant.templates 0 c.in_ok-place.field-0.now (sym c.in_ok-place.ensures.value))

pub view_at-requires-clause-read : goal.view_at-requires-clause-read
view_at-requires-clause-read c =
    let table = c.self.inside.table in
    let deck = deck_in c.self.inside.table c.self.inside.root c.self.inside.bytes in
    rw c.as_slice-bytes.ensures
    (place_read table c.self.inside.bytes c.self.inside.cards.templates (tagged tags.Template deck)
    c.self.invariant.templates 0 c.in_ok-place.field-0.now (sym c.in_ok-place.ensures.value))

pub returns : goal.returns
returns c =
    let table = c.self.inside.table in
    let deck = deck_in c.self.inside.table c.self.inside.root c.self.inside.bytes in
    rw (c.view_at.ensures, c.as_slice-bytes.ensures)
    (place_seen table c.self.inside.bytes c.self.inside.cards.templates (tagged tags.Template deck)
    c.self.invariant.templates 0 c.in_ok-place.field-0.now (sym c.in_ok-place.ensures.value)
    ∙ first_node (tagged tags.Template deck)
    ∙ ap (λ (d : Deck). first_with tags.Template d.root.kids) c.self.view_is)
