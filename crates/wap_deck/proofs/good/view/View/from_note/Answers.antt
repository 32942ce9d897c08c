use Rattle.wap_deck.proofs.good.view.View.from_note.Goals as goal

pub invariant_of-result : goal.invariant_of-result
invariant_of-result c = record { lent = c.requires.lent; head = c.requires.head }
