use Rattle.wap_context.specs.Browsers.{place_held}
use Rattle.std.proofs.Common.{◌∙◌, sym, ap, Err}
use Rattle.std.proofs.lemmas.Result.{err_from_is_err_and}
use Rattle.wap_world.specs.Tasks.{request}
use Rattle.wap_context.specs.Sites.{site_of}
use Rattle.wap_context.proofs.Requesting.{page_missed, request_first, request_takes, request_starts}
use Rattle.wap_context.proofs.context.Context.request.Goals as goal

pub returns-in_ok-take_answer-in-Ok : goal.returns-in_ok-take_answer-in-Ok
returns-in_ok-take_answer-in-Ok g c =
    request_takes (g.P.Pages.seen c.args.pages.now)
    c.args.self.now c.take_answer.new.self c.args.lines.now
    c.args.sets c.args.caller.now c.args.one
    (g.P.Pages.seen c.ask.new.pages) c.ask.new.lines c.take_answer.new.lines
    c.in_ok-take_answer-in-Ok.field-0 c.in_ok-page.page c.in-Ok.answer c.into_url-url.result
    c.into_url-url.ensures
    c.in_ok-page.ensures (sym c.page_answer.ensures ∙ c.in-Ok.is) c.in_ok-take_answer-in-Ok.ensures

pub returns-in-Err : goal.returns-in-Err
returns-in-Err g c =
    request_starts (g.P.Pages.seen c.args.pages.now)
    c.args.self.now c.try_script.new.self c.args.lines.now
    c.args.sets c.args.caller.now c.args.one
    (g.P.Pages.seen c.ask.new.pages) (g.P.Pages.seen c.try_script.new.pages)
    c.ask.new.lines c.try_script.new.lines c.try_script.result c.in_ok-page.page c.in-Err.unit
    c.into_url-url.result c.into_url-url.ensures
    c.in_ok-page.ensures (sym c.page_answer.ensures ∙ c.in-Err.is) c.try_script.ensures

pub returns-in_err-page : goal.returns-in_err-page
returns-in_err-page g c =
    let seen = g.P.Pages.seen c.args.pages.now in
    let left = err_from_is_err_and c.from_residual.result c.from_residual.ensures.1 in
    page_missed (λ pages keys. request (site_of pages) (place_held c.args.self.now) keys c.args.sets
    c.args.caller.now c.args.one) c.args.one seen
    (g.P.Pages.seen c.ask.new.pages)
    c.args.self.now c.args.self.now c.args.lines.now c.ask.new.lines c.in_err-page.field-0.0
    c.from_residual.result (left.1 ∙ ap Err left.2)
    (request_first seen c.args.self.now c.args.self.now c.args.lines.now c.args.sets
    c.args.caller.now c.args.one)
    c.in_err-page.ensures
