use Rattle.wap_execution.proofs.LawsLemmas.KeyedLaws.{agrees}
use Rattle.wap_execution.proofs.laws.keyed_runs_agree.Goals as goal

pub returns : goal.returns
returns g c = λ limits answering. agrees limits g.H.HostMeaning.meaning answering
