use Rattle.wap_deck.proofs.good.view.View.without_note.Goals as goal

pub invariant_of-result : goal.invariant_of-result
invariant_of-result c = record { lent = c.requires; head = c.known_at.ensures }
