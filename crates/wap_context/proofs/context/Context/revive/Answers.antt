use Rattle.std.proofs.Common.{◌∙◌, sym}
use Rattle.wap_context.proofs.Reviving.{revives_bare, revives_state, revives_rejected}
use Rattle.wap_context.proofs.context.Context.revive.Goals as goal

pub returns-in-Some : goal.returns-in-Some
returns-in-Some g c =
    revives_state c.args.parts c.in_ok-state.state c.in_ok-last.field-0 c.in-Some.last
    (g.P.Pages.seen c.args.pages.now) (g.P.Pages.seen c.ask_again.new.pages) c.ask_again.result
    c.in_ok-state.ensures c.in_ok-last.ensures c.in-Some.is c.ask_again.ensures

pub returns-in-None : goal.returns-in-None
returns-in-None g c =
    revives_bare c.args.parts (g.P.Pages.seen c.args.pages.now) c.in_ok-state.state
    c.in_ok-state.ensures (sym c.in_ok-last.ensures ∙ c.in-None.is)

pub returns-in_err-state : goal.returns-in_err-state
returns-in_err-state g c =
    revives_rejected c.args.parts (g.P.Pages.seen c.args.pages.now) c.from_residual.result
    c.from_residual.ensures.0 c.from_residual.ensures.1

pub returns-in_err-last : goal.returns-in_err-last
returns-in_err-last g c =
    revives_rejected c.args.parts (g.P.Pages.seen c.args.pages.now)
    c.from_residual-in_err-last.result c.from_residual-in_err-last.ensures.0
    c.from_residual-in_err-last.ensures.1
