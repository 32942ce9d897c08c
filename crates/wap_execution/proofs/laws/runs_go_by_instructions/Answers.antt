use Rattle.wap_execution.proofs.LawsLemmas.InstructionLaws.{agrees}
use Rattle.wap_execution.proofs.laws.runs_go_by_instructions.Goals as goal

pub returns : goal.returns
returns g c = λ limits. agrees limits g.H.HostMeaning.meaning
