use Rattle.wap_deck.proofs.good.view.View.of.Goals as goal

pub from_note-requires-clause-lent : goal.from_note-requires-clause-lent
from_note-requires-clause-lent c = record {
  few = c.requires.few;
  read = c.requires.read;
  noted = c.in-Some.ensures.inside;
}

pub from_note-requires-clause-head : goal.from_note-requires-clause-head
from_note-requires-clause-head c = c.in-Some.ensures.own.head
