use Rattle.wap_mend.specs.inside.Tops.{IsAdding}
use Rattle.wap_mend.proofs.top.add_cards.Given as goal

-- the cards so far are added
abbrev pub invariant-loop-card : goal.invariant-loop-card
invariant-loop-card l = IsAdding l.initial.content l.fn.cards l.content l.card-iterator.rest.items
