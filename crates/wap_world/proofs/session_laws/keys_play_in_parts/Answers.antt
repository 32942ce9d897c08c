use Rattle.wap_world.proofs.InboxesLemmas.Playing.{plays_in_parts}
use Rattle.wap_world.proofs.session_laws.keys_play_in_parts.Goals as goal

pub returns : goal.returns
returns c = plays_in_parts
