use Rattle.wap_site_laws.proofs.ExchangeLemmas.Stores.{denied_stores}
use Rattle.wap_site_laws.proofs.exchange.denied_scripts_do_not_matter.Goals as goal

pub returns : goal.returns
returns c = denied_stores
