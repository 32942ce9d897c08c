use Rattle.std.proofs.Common.{Option, List, [], subst}
use Rattle.wap_url.specs.declared.url.Url.{Url}
use Rattle.wap_value.specs.declared.value.Value.{Value}
use Rattle.wap_unit.specs.declared.unit.Unit.{Unit}
use Rattle.wap_machine.specs.Seen.{function_in}
use Rattle.wap_machine.specs.Stacks.{IsEntered}
use Rattle.wap_world.specs.Setting.{set_variables}
use Rattle.wap_state.specs.Scenes.{Line}
use Rattle.wap_context.specs.Browsers.{Shows}
use Rattle.wap_context.proofs.Takings.{takes_rejected}
use Rattle.wap_context.proofs.Beginning.{begin_takes}
use Rattle.wap_context.proofs.context.Context.begin_script.Goals as goal

pub returns-in_err-set_variables : goal.returns-in_err-set_variables
returns-in_err-set_variables g c =
    takes_rejected c.from_residual.result c.from_residual.ensures.0 c.from_residual.ensures.1

pub returns-in_err-to_url : goal.returns-in_err-to_url
returns-in_err-to_url g c =
    takes_rejected c.from_residual-in_err-to_url.result c.from_residual-in_err-to_url.ensures.0
    c.from_residual-in_err-to_url.ensures.1

pub returns-in_err-copy_of : goal.returns-in_err-copy_of
returns-in_err-copy_of g c =
    takes_rejected c.from_residual-in_err-copy_of.result c.from_residual-in_err-copy_of.ensures.0
    c.from_residual-in_err-copy_of.ensures.1

pub returns-in_err-machine : goal.returns-in_err-machine
returns-in_err-machine g c =
    takes_rejected c.from_residual-in_err-machine.result c.from_residual-in_err-machine.ensures.0
    c.from_residual-in_err-machine.ensures.1

pub returns : goal.returns
returns g c =
    let entered = subst (λ (base : Url).
    IsEntered c.limits-limits.result
    (function_in c.args.unit base c.args.caller.now c.args.index) c.args.arguments []
    c.in_ok-machine.machine) c.in_ok-to_url.ensures
    (subst (λ (caller : Option Url).
    IsEntered c.limits-limits.result
    (function_in c.args.unit c.in_ok-to_url.field-0 caller c.args.index) c.args.arguments []
    c.in_ok-machine.machine) c.in_ok-copy_of.ensures
    (subst (λ (arguments : List Value).
    IsEntered c.limits-limits.result
    (function_in c.args.unit c.in_ok-to_url.field-0 c.in_ok-copy_of.field-0 c.args.index) arguments
    [] c.in_ok-machine.machine) c.into_vec.ensures
    (subst (λ (unit : Unit).
    IsEntered c.limits-limits.result
    (function_in unit c.in_ok-to_url.field-0 c.in_ok-copy_of.field-0 c.args.index)
    c.into_vec.result.items [] c.in_ok-machine.machine) c.unit.view_is
    c.in_ok-machine.ensures))) in
    begin_takes c.args.unit c.args.sets c.args.caller.now c.args.url c.args.index c.args.arguments
    c.args.self.now c.set_variables.new.self c.clear_pending.new.self c.set_variables.new.lines
    c.in_ok-machine.machine c.without_fragment-base.result c.limits-limits.result
    (subst (λ (lines : List Line).
    Shows (λ place. set_variables c.args.sets) c.args.self.now c.set_variables.new.self lines
    c.set_variables.new.lines) c.new-first.ensures c.in_ok-set_variables.ensures)
    c.clear_pending.ensures c.without_fragment-base.ensures c.limits-limits.ensures.value entered
    (g.P.Pages.seen c.args.pages.now) (g.P.Pages.seen c.go_on.new.pages) c.go_on.new.self
    c.args.lines.now c.go_on.new.lines c.go_on.result c.go_on.ensures
