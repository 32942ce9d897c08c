use Rattle.wap_site_laws.proofs.PagesLemmas.Judging.{pages_judged}
use Rattle.wap_site_laws.proofs.pages.pages_are_those_judged.Goals as goal

pub returns : goal.returns
returns c = pages_judged
