use Rattle.wap_world.proofs.InboxesLemmas.Reacting.{push_taken, push_refused}
use Rattle.wap_world.proofs.inboxes.pushes_change_nothing_else.Goals as goal

pub returns-clause-taken : goal.returns-clause-taken
returns-clause-taken c = push_taken

pub returns-clause-refused : goal.returns-clause-refused
returns-clause-refused c = push_refused
