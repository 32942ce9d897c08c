use Rattle.std.proofs.Common.{sym, subst}
use Rattle.wap_world.specs.Requests.{Request}
use Rattle.wap_state.specs.page_urls.PageUrls.{IsPageUrl}
use Rattle.wap_state.proofs.PageUrlsLemmas.Targets.{request_page}
use Rattle.wap_state.proofs.page_urls.requests.PageRequest.of.Goals as goal

pub invariant_of-result : goal.invariant_of-result
invariant_of-result c =
    subst (λ (r : Request). IsPageUrl r.url) (sym c.in_ok-request_of.ensures)
    (request_page c.args.base.now c.args.go.now c.into_url.result c.into_url.ensures.page)
