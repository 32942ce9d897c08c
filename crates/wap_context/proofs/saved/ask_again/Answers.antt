use Rattle.std.proofs.Common.{◌∙◌, ap, Err}
use Rattle.std.proofs.lemmas.Result.{err_from_is_err_and}
use Rattle.wap_context.proofs.Reviving.{returns_ok, returns_missed}
use Rattle.wap_context.proofs.saved.ask_again.Goals as goal

pub returns : goal.returns
returns g c =
    returns_ok c.args.state c.args.last (g.P.Pages.seen c.args.pages.now)
    (g.P.Pages.seen c.ask_page.new.pages) c.in_ok-page.page c.in_ok-revived_on.field-0
    c.in_ok-page.ensures c.in_ok-revived_on.ensures

pub returns-in_err-page : goal.returns-in_err-page
returns-in_err-page g c =
    let left = err_from_is_err_and c.from_residual.result c.from_residual.ensures.1 in
    returns_missed c.args.state c.args.last (g.P.Pages.seen c.args.pages.now)
    (g.P.Pages.seen c.ask_page.new.pages) c.in_err-page.field-0.0 c.from_residual.result
    (left.1 ∙ ap Err left.2) c.in_err-page.ensures
