use Rattle.wap_execution.proofs.LawsLemmas.BoundLaws.{bounded}
use Rattle.wap_execution.proofs.laws.runs_are_bounded.Goals as goal

pub returns : goal.returns
returns g c = λ limits frames turns state answers.
    bounded limits g.H.HostMeaning.meaning frames turns state answers
