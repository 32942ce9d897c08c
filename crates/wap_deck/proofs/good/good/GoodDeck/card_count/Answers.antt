use Rattle.std.proofs.Common.{◌∙◌, ap, length}
use Rattle.wap_tokens.specs.declared.markup.deck.Deck.{Deck}
use Rattle.wap_tokens.specs.markup.Cards.{cards_of}
use Rattle.wap_deck.specs.good.inside.KeptBytes.{deck_in}
use Rattle.wap_deck.proofs.GoodLemmas.CardLaw.{length-places}
use Rattle.wap_deck.proofs.good.good.GoodDeck.card_count.Goals as goal

pub returns : goal.returns
returns c =
    let table = c.self.inside.table in
    let deck = deck_in c.self.inside.table c.self.inside.root c.self.inside.bytes in
    c.len.ensures
    ∙ length-places table c.self.inside.bytes c.self.inside.cards.places
    (cards_of deck) c.self.invariant.placed
    ∙ ap (λ (d : Deck). length (cards_of d)) c.self.view_is
