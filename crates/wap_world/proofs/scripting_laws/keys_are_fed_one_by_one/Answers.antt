use Rattle.wap_world.proofs.ScriptingLawsLemmas.Feeding.{feeds}
use Rattle.wap_world.proofs.scripting_laws.keys_are_fed_one_by_one.Goals as goal

pub returns : goal.returns
returns c = feeds
