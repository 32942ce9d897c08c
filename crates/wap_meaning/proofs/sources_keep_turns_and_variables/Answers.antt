use Rattle.wap_meaning.proofs.Trees.{keeps}
use Rattle.wap_meaning.proofs.sources_keep_turns_and_variables.Goals as goal

pub returns : goal.returns
returns g c = keeps g.H.HostMeaning.State
