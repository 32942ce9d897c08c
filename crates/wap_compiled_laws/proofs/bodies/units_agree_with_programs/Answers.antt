use Rattle.wap_compiled_laws.proofs.BodiesLemmas.Functions.{agrees}
use Rattle.wap_compiled_laws.proofs.bodies.units_agree_with_programs.Goals as goal

pub returns : goal.returns
returns g c = agrees g.H.HostStates.State
