use Rattle.std.proofs.Common.{◌∙◌, ap, Err}
use Rattle.std.proofs.lemmas.Result.{err_from_is_err_and}
use Rattle.wap_context.proofs.Calling.{open_ok, open_err}
use Rattle.wap_context.proofs.context.Context.open.Goals as goal

pub returns : goal.returns
returns g c =
    open_ok c.args.url.now (g.P.Pages.seen c.args.pages.now)
    (g.P.Pages.seen c.visit_once.new.pages) (g.P.Pages.seen c.follow.new.pages) c.args.self.now
    c.visit_once.new.self c.follow.new.self c.new-lines.result c.visit_once.new.lines
    c.in_ok-went.went c.follow.result c.new-lines.ensures c.in_ok-went.ensures.takes
    c.follow.ensures

pub returns-in_err-went : goal.returns-in_err-went
returns-in_err-went g c =
    let left = err_from_is_err_and c.from_residual.result c.from_residual.ensures.1 in
    open_err c.args.url.now (g.P.Pages.seen c.args.pages.now)
    (g.P.Pages.seen c.visit_once.new.pages) c.args.self.now c.visit_once.new.self
    c.new-lines.result c.visit_once.new.lines c.in_err-went.field-0.0 c.from_residual.result
    (left.1 ∙ ap Err left.2) c.new-lines.ensures c.in_err-went.ensures.takes
