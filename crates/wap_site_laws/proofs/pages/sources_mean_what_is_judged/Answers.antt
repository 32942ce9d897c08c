use Rattle.wap_site_laws.proofs.PagesLemmas.Judging.{site_judged}
use Rattle.wap_site_laws.proofs.pages.sources_mean_what_is_judged.Goals as goal

pub returns : goal.returns
returns c = site_judged
