use Rattle.wap_execution.proofs.LawsLemmas.KeyedLaws.{goes_on}
use Rattle.wap_execution.proofs.laws.keyed_runs_go_on.Goals as goal

pub returns : goal.returns
returns g c = λ limits answering. goes_on limits g.H.HostMeaning.meaning answering
