use Rattle.wap_deck.proofs.DocumentsLemmas.Nodes.{deck_read}
use Rattle.wap_deck.proofs.writing.laws.written_decks_are_meant.Goals as goal

pub returns : goal.returns
returns c = deck_read
