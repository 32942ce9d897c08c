use Rattle.wap_execution.proofs.LawsLemmas.ForgetLaws.{agrees}
use Rattle.wap_execution.proofs.laws.runs_forget_frames.Goals as goal

pub returns : goal.returns
returns g c = agrees g.H.HostMeaning.State
