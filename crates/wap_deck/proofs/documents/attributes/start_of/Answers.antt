use Rattle.std.proofs.lemmas.Str.{chars-nil}
use Rattle.wap_deck.proofs.documents.attributes.start_of.Goals as goal

pub returns-in-Some-clause-characters : goal.returns-in-Some-clause-characters
returns-in-Some-clause-characters c = chars-nil
