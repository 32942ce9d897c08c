use Rattle.std.proofs.Common.{◌∙◌, ap, sym}
use Rattle.std.specs.Prelude.{slice_get}
use Rattle.wap_tokens.specs.declared.markup.deck.Deck.{Deck}
use Rattle.wap_tokens.specs.markup.Cards.{cards_of}
use Rattle.wap_deck.specs.good.inside.KeptBytes.{deck_in}
use Rattle.wap_deck.proofs.GoodLemmas.CardLaw.{no_card_at, place_within, place_read, place_seen}
use Rattle.wap_deck.proofs.good.good.GoodDeck.card.Goals as goal

pub returns-in_err-place : goal.returns-in_err-place
returns-in_err-place c =
    let table = c.self.inside.table in
    let deck = deck_in c.self.inside.table c.self.inside.root c.self.inside.bytes in
    c.from_residual.ensures
    ∙ sym (no_card_at table c.self.inside.bytes c.self.inside.cards.places
    (cards_of deck) c.self.invariant.placed c.args.number (sym c.in_err-place.ensures.value))
    ∙ ap (λ (d : Deck). slice_get (cards_of d) c.args.number) c.self.view_is

pub view_at-requires-clause-noted : goal.view_at-requires-clause-noted
view_at-requires-clause-noted c =
    rw (c.as_slice-bytes.ensures, c.as_slice-notes.ensures) c.self.invariant.noted

pub view_at-requires-clause-within : goal.view_at-requires-clause-within
view_at-requires-clause-within c =
    let table = c.self.inside.table in
    let deck = deck_in c.self.inside.table c.self.inside.root c.self.inside.bytes in
    rw c.as_slice-bytes.ensures
    (place_within table c.self.inside.bytes c.self.inside.cards.places
    (cards_of deck) c.self.invariant.placed c.args.number c.in_ok-place.field-0.now
    (sym c.in_ok-place.ensures.value))

pub view_at-requires-clause-read : goal.view_at-requires-clause-read
view_at-requires-clause-read c =
    let table = c.self.inside.table in
    let deck = deck_in c.self.inside.table c.self.inside.root c.self.inside.bytes in
    rw c.as_slice-bytes.ensures
    (place_read table c.self.inside.bytes c.self.inside.cards.places
    (cards_of deck) c.self.invariant.placed c.args.number c.in_ok-place.field-0.now
    (sym c.in_ok-place.ensures.value))

pub returns : goal.returns
returns c =
    let table = c.self.inside.table in
    let deck = deck_in c.self.inside.table c.self.inside.root c.self.inside.bytes in
    rw (c.view_at.ensures, c.as_slice-bytes.ensures)
    (place_seen table c.self.inside.bytes c.self.inside.cards.places
    (cards_of deck) c.self.invariant.placed c.args.number c.in_ok-place.field-0.now
    (sym c.in_ok-place.ensures.value)
    ∙ ap (λ (d : Deck). slice_get (cards_of d) c.args.number) c.self.view_is)
