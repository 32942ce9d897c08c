use Rattle.wap_world.proofs.Laws.{denies_script}
use Rattle.wap_world.proofs.session_laws.denied_scripts_are_not_started.Goals as goal

pub returns : goal.returns
returns c = denies_script
