use Rattle.std.proofs.Common.{◌∙◌, ap, Option}
use Rattle.wap_world.specs.Shelves.{Entrance}
use Rattle.wap_world.specs.Access.{may_enter}
use Rattle.wap_world.specs.scripting.Units.{entrance_in}
use Rattle.wap_context.proofs.Takings.{takes_rejected}
use Rattle.wap_context.proofs.Beginning.{script_allowed, script_denied}
use Rattle.wap_context.proofs.context.Context.try_script.Goals as goal

pub returns-in_err-reject : goal.returns-in_err-reject
returns-in_err-reject g c =
    takes_rejected c.from_residual-in_err-reject.result c.from_residual-in_err-reject.ensures.0
    c.from_residual-in_err-reject.ensures.1

pub returns-then-branch : goal.returns-then-branch
returns-then-branch g c =
    script_allowed (g.P.Pages.seen c.args.pages.now) c.args.self.now c.start.new.self
    c.args.lines.now c.start.new.lines c.args.unit c.args.sets c.args.caller.now c.args.url
    (g.P.Pages.seen c.start.new.pages) c.start.result c.in_ok-may_enter.field-0
    (c.in_ok-may_enter.ensures
    ∙ ap (λ (e : Option Entrance). may_enter c.args.url e c.args.caller.now)
    (c.in_ok-entrance.ensures ∙ ap entrance_in c.deref.ensures))
    c.if-branch.true c.start.ensures

pub returns-in_ok-reject : goal.returns-in_ok-reject
returns-in_ok-reject g c =
    script_denied (g.P.Pages.seen c.args.pages.now) c.args.self.now c.reject.new.self
    c.args.lines.now c.reject.new.lines c.args.unit c.args.sets c.args.caller.now c.args.url
    c.in_ok-reject.field-0 c.in_ok-may_enter.field-0
    (c.in_ok-may_enter.ensures
    ∙ ap (λ (e : Option Entrance). may_enter c.args.url e c.args.caller.now)
    (c.in_ok-entrance.ensures ∙ ap entrance_in c.deref.ensures))
    c.if-branch.false c.in_ok-reject.ensures

pub returns-in_err-entrance : goal.returns-in_err-entrance
returns-in_err-entrance g c =
    takes_rejected c.from_residual.result c.from_residual.ensures.0 c.from_residual.ensures.1

pub returns-in_err-may_enter : goal.returns-in_err-may_enter
returns-in_err-may_enter g c =
    takes_rejected c.from_residual-in_err-may_enter.result
    c.from_residual-in_err-may_enter.ensures.0 c.from_residual-in_err-may_enter.ensures.1
