use Rattle.wap_world.proofs.ScriptingLawsLemmas.Viewing as viewing
use Rattle.wap_world.proofs.scripting_laws.views_run_alike.Goals as goal

pub returns : goal.returns
returns c = viewing.views_run_alike
