use Rattle.wap_meaning.proofs.Units.{agrees}
use Rattle.wap_meaning.proofs.units_run_as_machines.Goals as goal

pub returns : goal.returns
returns g c = λ limits. agrees limits g.H.HostMeaning.meaning
