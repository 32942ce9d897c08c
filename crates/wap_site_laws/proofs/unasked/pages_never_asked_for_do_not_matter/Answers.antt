use Rattle.wap_site_laws.proofs.UnaskedLemmas.Sites.{unasked, ends_beside}
use Rattle.wap_site_laws.proofs.unasked.pages_never_asked_for_do_not_matter.Goals as goal

pub returns-clause-same : goal.returns-clause-same
returns-clause-same c = unasked

pub returns-clause-beside : goal.returns-clause-beside
returns-clause-beside c = ends_beside
