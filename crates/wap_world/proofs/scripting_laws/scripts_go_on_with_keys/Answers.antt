use Rattle.wap_world.proofs.ScriptingLawsLemmas.Runs.{goes_on_with_keys}
use Rattle.wap_world.proofs.scripting_laws.scripts_go_on_with_keys.Goals as goal

pub returns : goal.returns
returns c = goes_on_with_keys
