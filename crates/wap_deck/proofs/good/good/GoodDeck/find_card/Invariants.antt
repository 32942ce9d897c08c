use Rattle.wap_deck.proofs.GoodLemmas.CardLaw.{Left}
use Rattle.wap_deck.proofs.good.good.GoodDeck.find_card.Given as goal

-- no card passed has that id
abbrev pub invariant-loop-number : goal.invariant-loop-number
invariant-loop-number l = Left l.self l.id l.number
