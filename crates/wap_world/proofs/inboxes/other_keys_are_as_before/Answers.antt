use Rattle.wap_world.proofs.InboxesLemmas.Reacting.{reacts_alike}
use Rattle.wap_world.proofs.inboxes.other_keys_are_as_before.Goals as goal

pub returns : goal.returns
returns c = reacts_alike
