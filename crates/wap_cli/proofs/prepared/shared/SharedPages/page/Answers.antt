use Rattle.wap_world.proofs.SiteLemmas.Asking.{Stays-same}
use Rattle.wap_cli.proofs.PreparedLemmas.Fitting.{fit_all}
use Rattle.wap_cli.proofs.prepared.shared.SharedPages.page.Goals as goal

pub returns-in_err-share-in-Some-clause-site : goal.returns-in_err-share-in-Some-clause-site
returns-in_err-share-in-Some-clause-site c =
    rw (← c.self.view_is) (fit_all c.self.inside.prepared.now c.page.ensures.prepared)

pub returns-clause-site : goal.returns-clause-site
returns-clause-site c =
    rw (← c.self.view_is) (fit_all c.self.inside.prepared.now c.page.ensures.prepared)

pub returns-in_err-share-in-Some-clause-stays : goal.returns-in_err-share-in-Some-clause-stays
returns-in_err-share-in-Some-clause-stays c = Stays-same _

pub returns-clause-stays : goal.returns-clause-stays
returns-clause-stays c = Stays-same _
