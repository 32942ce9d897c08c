use Rattle.std.proofs.Common.{List, ◌++◌, sym, ap, ap₂, ◌∙◌}
use Rattle.wap_vars.specs.declared.fault.VarFault.{VarFault}
use Rattle.wap_vars.specs.Variables.{Variables}
use Rattle.wap_cardrules.specs.Setting.{default}
use Rattle.wap_cards.specs.inputs.Stopped.{DefaultsStand}
use Rattle.wap_base.proofs.Choices.{on_err}
use Rattle.wap_cards.proofs.InputsLemmas.Giving.{vars_next, refused_next, stopped_at}
use Rattle.wap_cards.proofs.inputs.defaults.apply_defaults.Goals as goal

pub loop-field-preserved : goal.loop-field-preserved
loop-field-preserved c = record {
  vars =
      c.in_ok-default.ensures.set ∙ ap
      (λ (vars : Variables). (default vars c.field-item.result).vars) c.loop-field.invariant.vars
      ∙ sym (vars_next c.args.vars.now c.as_slice-field-items.result.now c.loop-field.field-index
      c.field-item.result c.loop-field-test.true c.field-item.is);
  refused = c.in_ok-default.ensures.refused
      ∙ ap₂ (λ (refused : List VarFault) (vars : Variables).
      refused ++ (default vars c.field-item.result).refused)
      c.loop-field.invariant.refused c.loop-field.invariant.vars
      ∙ sym (refused_next c.args.vars.now c.as_slice-field-items.result.now c.loop-field.field-index
      c.field-item.result c.loop-field-test.true c.field-item.is);
}

pub returns-in_err-default-clause-stopped : goal.returns-in_err-default-clause-stopped
returns-in_err-default-clause-stopped c =
    on_err c.from_residual-in_err-default.result
    (DefaultsStand c.args.vars.now c.args.card.now c.default.new.vars)
    (stopped_at c.args.vars.now c.default.new.vars c.loop-field.vars c.args.card.now
    c.as_slice-field-items.result.now c.loop-field.field-index c.field-item.result
    (c.as_slice-field-items.ensures ∙ c.in_ok-fields.ensures) c.loop-field-test.true c.field-item.is
    c.loop-field.invariant.vars c.in_err-default.ensures.stopped)
