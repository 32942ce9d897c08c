use Rattle.wap_site_laws.proofs.ExchangeLemmas.Replacing.{replaces}
use Rattle.wap_site_laws.proofs.exchange.sources_may_be_compiled.Goals as goal

pub returns : goal.returns
returns g c = λ compiler agrees call pages.
    replaces g.L.Language.language compiler agrees pages call
