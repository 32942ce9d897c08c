use Rattle.wap_deck.proofs.GoodLemmas.DeckLaw.{held, deck_seen, has_table}
use Rattle.wap_deck.proofs.good.laws.decks_are_read.Goals as goal

pub returns-clause-table : goal.returns-clause-table
returns-clause-table c = λ deck bytes good normal of spellable are.
    has_table deck good normal of spellable bytes are

pub returns-clause-deck : goal.returns-clause-deck
returns-clause-deck c = λ deck bytes table root good normal of spellable are found ordered within. (
  held deck good normal of spellable bytes table root are ordered found within,
  deck_seen deck good normal of spellable bytes table root are ordered found,
)
