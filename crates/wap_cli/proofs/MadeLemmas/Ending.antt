-- How the browsing of a made folder ends.
use Rattle.std.proofs.Common.{ℕ, sym, subst}
use Rattle.wap_devices.specs.Sinks.{SinkSeen}
use Rattle.wap_cli.specs.declared.status.Status.{Status}
use Rattle.wap_make.specs.Folders.{folder}
use Rattle.wap_cli.specs.Writing.{PutsTo}
use Rattle.wap_cli.specs.Networks.{Network, over}
use Rattle.wap_cli.specs.made.Making.{Makes, TellsMade, made_report}
use Rattle.wap_cli.specs.made.inside.Tours.{made_site}
use Rattle.wap_cli.proofs.Calling.{network_units}
use Rattle.wap_cli.proofs.Writing.{writes_as}

-- what is written over the judged pages is written over whatever pages the folder is
pub made_by : (n : ℕ) (before after : SinkSeen) (status : Status)
    → PutsTo (made_report n (over (made_site n))) before after status → Makes n before after status
made_by n before after status puts =
    writes_as (λ Wrote. Wrote (made_report n (over (made_site n)))) (TellsMade n)
    (λ Wrote wrote one are. subst (λ (network : Network). Wrote (made_report n network))
    (sym (network_units one (folder n) are.0 are.1)) wrote) before after status puts
