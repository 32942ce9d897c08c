use Rattle.wap_context.proofs.Takings.{takes_rejected}
use Rattle.wap_context.proofs.Requesting.{stay_arrives, stay_asks}
use Rattle.wap_context.proofs.context.Context.stay_or_ask.Goals as goal

pub returns-in_ok-arrive-in-Some : goal.returns-in_ok-arrive-in-Some
returns-in_ok-arrive-in-Some g c =
    stay_arrives (g.P.Pages.seen c.args.pages.now)
    c.args.self.now c.arrive.new.self c.args.lines.now
    c.args.sets c.args.caller.now c.args.one c.arrive.new.lines c.in_ok-arrive-in-Some.field-0
    c.in_ok-here.field-0
    (c.in-Some.here, c.in-Some.deck) c.fragment_on-url.result
    c.in_ok-here.ensures c.in-Some.is
    c.fragment_on-url.ensures
    c.in_ok-arrive-in-Some.ensures

pub returns-in_err-arrive-in-Some : goal.returns-in_err-arrive-in-Some
returns-in_err-arrive-in-Some g c =
    takes_rejected c.from_residual-in_err-arrive-in-Some.result
    c.from_residual-in_err-arrive-in-Some.ensures.0 c.from_residual-in_err-arrive-in-Some.ensures.1

pub returns-in-None : goal.returns-in-None
returns-in-None g c =
    stay_asks (g.P.Pages.seen c.args.pages.now) c.args.self.now c.request.new.self c.args.lines.now
    c.args.sets c.args.caller.now c.args.one
    (g.P.Pages.seen c.request.new.pages) c.request.new.lines c.in_ok-here.field-0
    c.request.result c.in_ok-here.ensures c.in-None.is c.request.ensures

pub returns-in_err-here : goal.returns-in_err-here
returns-in_err-here g c =
    takes_rejected c.from_residual.result c.from_residual.ensures.0 c.from_residual.ensures.1
