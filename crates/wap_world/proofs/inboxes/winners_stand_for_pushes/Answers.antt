use Rattle.wap_world.proofs.InboxesLemmas.Alike.{winners_win, plays_alike}
use Rattle.wap_world.proofs.inboxes.winners_stand_for_pushes.Goals as goal

pub returns-clause-own : goal.returns-clause-own
returns-clause-own c = winners_win

pub returns-clause-alike : goal.returns-clause-alike
returns-clause-alike c = plays_alike
