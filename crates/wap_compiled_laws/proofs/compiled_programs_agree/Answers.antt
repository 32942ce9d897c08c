use Rattle.wap_compiled_laws.proofs.Sources.{agree}
use Rattle.wap_compiled_laws.proofs.compiled_programs_agree.Goals as goal

pub returns : goal.returns
returns g c = agree g.H.HostStates.State
