use Rattle.std.proofs.Common.{◌∙◌, ap}
use Rattle.wap_base.specs.declared.limits.Limits.{Limits}
use Rattle.wap_url.specs.Printing.{without_fragment}
use Rattle.wap_unit.specs.declared.unit.Unit.{Unit}
use Rattle.wap_world.specs.Starting.{start_by}
use Rattle.wap_world.specs.scripting.Units.{external_in}
use Rattle.wap_context.specs.inside.Starting.{call_at}
use Rattle.wap_context.proofs.Takings.{takes_rejected}
use Rattle.wap_context.proofs.Beginning.{start_begins, start_enters, start_rejects}
use Rattle.wap_context.proofs.context.Context.start.Goals as goal

pub returns-in_ok-reject-in-Err : goal.returns-in_ok-reject-in-Err
returns-in_ok-reject-in-Err g c =
    let string = c.limits-string.result.string in
    start_rejects (g.P.Pages.seen c.args.pages.now) c.args.self.now c.reject.new.self
    c.args.lines.now c.reject.new.lines c.args.unit c.args.sets c.args.caller.now c.args.url
    c.in-Err.why c.in_ok-why.field-0 string c.in_ok-reject-in-Err.field-0
    (c.in_ok-why.ensures
    ∙ ap (λ (u : Unit). start_by (external_in u) string (call_at c.args.url)) c.deref.ensures)
    (ap (λ (l : Limits). l.string) c.limits-string.ensures.value) c.in-Err.is
    c.in_ok-reject-in-Err.ensures

pub returns-in-Ok : goal.returns-in-Ok
returns-in-Ok g c =
    let string = c.limits-string.result.string in
    start_begins (g.P.Pages.seen c.args.pages.now) c.args.self.now c.begin_script.new.self
    c.args.lines.now c.begin_script.new.lines c.args.unit c.args.sets c.args.caller.now c.args.url
    (g.P.Pages.seen c.begin_script.new.pages) c.begin_script.result c.in_ok-why.field-0 string
    c.in-Ok.index c.in-Ok.arguments
    (c.in_ok-why.ensures
    ∙ ap (λ (u : Unit). start_by (external_in u) string (call_at c.args.url)) c.deref.ensures)
    (ap (λ (l : Limits). l.string) c.limits-string.ensures.value) c.in-Ok.is
    c.begin_script.ensures

pub begin_script-requires : goal.begin_script-requires
begin_script-requires g c =
    let string = c.limits-string.result.string in
    start_enters c.args.unit string (without_fragment c.args.url) c.args.caller.now c.in-Ok.index
    c.in-Ok.arguments (call_at c.args.url) c.in_ok-why.field-0
    (c.in_ok-why.ensures
    ∙ ap (λ (u : Unit). start_by (external_in u) string (call_at c.args.url)) c.deref.ensures)
    c.in-Ok.is

pub returns-in_err-why : goal.returns-in_err-why
returns-in_err-why g c =
    takes_rejected c.from_residual.result c.from_residual.ensures.0 c.from_residual.ensures.1

pub returns-in_err-reject-in-Err : goal.returns-in_err-reject-in-Err
returns-in_err-reject-in-Err g c =
    takes_rejected c.from_residual-in_err-reject-in-Err.result
    c.from_residual-in_err-reject-in-Err.ensures.0 c.from_residual-in_err-reject-in-Err.ensures.1
