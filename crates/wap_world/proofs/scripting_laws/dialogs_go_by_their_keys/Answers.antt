use Rattle.wap_world.proofs.ScriptingLawsLemmas.Replying.{answer_means, stop_means, stay_means}
use Rattle.wap_world.proofs.scripting_laws.dialogs_go_by_their_keys.Goals as goal

pub returns-clause-answers : goal.returns-clause-answers
returns-clause-answers c = answer_means

pub returns-clause-stops : goal.returns-clause-stops
returns-clause-stops c = stop_means

pub returns-clause-stays : goal.returns-clause-stays
returns-clause-stays c = stay_means
