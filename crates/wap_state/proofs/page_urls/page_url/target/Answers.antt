use Rattle.std.proofs.Common.{sym, ◌∙◌}
use Rattle.wap_state.proofs.PageUrlsLemmas.Targets.{target_page}
use Rattle.wap_state.proofs.page_urls.page_url.target.Goals as goal

pub of-requires : goal.of-requires
of-requires c =
    target_page c.args.base.now c.args.href.now c.in-Ok.url c.requires
    (sym c.in_ok-url.ensures ∙ c.in-Ok.is)
