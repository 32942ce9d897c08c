use Rattle.wap_world.proofs.InboxesLemmas.Playing.{plays_alike}
use Rattle.wap_world.proofs.inboxes.keys_are_played_as_before.Goals as goal

pub returns : goal.returns
returns c = plays_alike
