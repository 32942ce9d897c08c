use Rattle.wap_execution.proofs.LawsLemmas.SimLaws.{agrees}
use Rattle.wap_execution.proofs.laws.alike_hosts_run_alike.Goals as goal

pub returns : goal.returns
returns g c = λ limits.
    agrees g.H.AlikeHosts.Kin g.H.AlikeHosts.OneLost g.H.AlikeHosts.OtherLost limits
    g.H.AlikeHosts.one g.H.AlikeHosts.other g.H.AlikeHosts.alike
