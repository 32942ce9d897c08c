use Rattle.wap_site_laws.proofs.PagesLemmas.Making.{store_has_pages}
use Rattle.wap_site_laws.proofs.pages.every_store_has_pages.Goals as goal

pub returns : goal.returns
returns c = store_has_pages
