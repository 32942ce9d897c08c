use Rattle.std.proofs.Common.{◌∙◌, ap, Err}
use Rattle.std.proofs.lemmas.Result.{err_from_is_err_and}
use Rattle.wap_world.specs.Requests.{plain_get}
use Rattle.wap_context.proofs.Requesting.{AsksBack, back_first, back_takes, page_missed}
use Rattle.wap_context.proofs.context.Context.ask_back.Goals as goal

pub returns : goal.returns
returns g c =
    back_takes (g.P.Pages.seen c.args.pages.now)
    c.args.self.now c.return_with.new.self c.args.lines.now
    c.args.sets c.args.earlier
    (g.P.Pages.seen c.ask_for.new.pages) c.ask_for.new.lines c.return_with.new.lines
    c.in_ok-return_with.field-0 c.in_ok-page.page c.deck_answer.result
    c.in_ok-page.ensures c.deck_answer.ensures
    c.in_ok-return_with.ensures

pub returns-in_err-page : goal.returns-in_err-page
returns-in_err-page g c =
    let seen = g.P.Pages.seen c.args.pages.now in
    let left = err_from_is_err_and c.from_residual.result c.from_residual.ensures.1 in
    page_missed (AsksBack seen c.args.self.now c.args.self.now c.args.lines.now c.args.sets
    c.args.earlier) (plain_get c.args.earlier.url) seen (g.P.Pages.seen c.ask_for.new.pages)
    c.args.self.now c.args.self.now c.args.lines.now c.ask_for.new.lines c.in_err-page.field-0.0
    c.from_residual.result (left.1 ∙ ap Err left.2)
    (back_first seen c.args.self.now c.args.self.now c.args.lines.now c.args.sets c.args.earlier)
    c.in_err-page.ensures
