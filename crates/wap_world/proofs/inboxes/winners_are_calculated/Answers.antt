use Rattle.wap_world.proofs.InboxesLemmas.Winning.{exactly}
use Rattle.wap_world.proofs.inboxes.winners_are_calculated.Goals as goal

pub returns : goal.returns
returns c = exactly
