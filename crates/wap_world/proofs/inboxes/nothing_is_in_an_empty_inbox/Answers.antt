use Rattle.wap_world.proofs.InboxesLemmas.Reacting.{none_followed}
use Rattle.wap_world.proofs.inboxes.nothing_is_in_an_empty_inbox.Goals as goal

pub returns-clause-followed : goal.returns-clause-followed
returns-clause-followed c = none_followed
