use Rattle.wap_world.proofs.ScriptingLawsLemmas.Refusing.{refuses_call}
use Rattle.wap_world.proofs.scripting_laws.denied_calls_run_nothing.Goals as goal

pub returns : goal.returns
returns c = refuses_call
