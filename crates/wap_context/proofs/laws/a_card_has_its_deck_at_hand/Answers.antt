use Rattle.wap_context.proofs.LawsLemmas.AtHand.{deck_none, card_there}
use Rattle.wap_context.proofs.laws.a_card_has_its_deck_at_hand.Goals as goal

pub returns-clause-deck : goal.returns-clause-deck
returns-clause-deck c = deck_none

pub returns-clause-card : goal.returns-clause-card
returns-clause-card c = card_there
