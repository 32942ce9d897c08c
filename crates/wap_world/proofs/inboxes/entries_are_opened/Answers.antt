use Rattle.wap_world.proofs.InboxesLemmas.Reacting.{entry_opened, entry_ignored}
use Rattle.wap_world.proofs.inboxes.entries_are_opened.Goals as goal

pub returns-clause-opened : goal.returns-clause-opened
returns-clause-opened c = entry_opened

pub returns-clause-none : goal.returns-clause-none
returns-clause-none c = entry_ignored
