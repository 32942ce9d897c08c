use Rattle.wap_execution.proofs.LawsLemmas.CountLaws.{agrees}
use Rattle.wap_execution.proofs.laws.counts_change_nothing.Goals as goal

pub returns : goal.returns
returns g c = λ limits. agrees limits g.H.HostMeaning.meaning
