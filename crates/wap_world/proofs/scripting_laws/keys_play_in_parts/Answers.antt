use Rattle.wap_world.proofs.ScriptingLawsLemmas.Feeding.{plays_in_parts}
use Rattle.wap_world.proofs.scripting_laws.keys_play_in_parts.Goals as goal

pub returns : goal.returns
returns c = plays_in_parts
