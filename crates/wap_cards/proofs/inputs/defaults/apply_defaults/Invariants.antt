use Rattle.std.proofs.Common.{◌≡◌, take}
use Rattle.wap_cardrules.specs.Setting.{set_each, default}
use Rattle.wap_cards.proofs.inputs.defaults.apply_defaults.Given as goal

abbrev pub invariant-loop-field : goal.invariant-loop-field
invariant-loop-field l = record {
  vars : l.vars ≡ (set_each default l.initial.vars (take l.field-index l.field-items)).vars;
  refused : l.refused
      ≡ (set_each default l.initial.vars (take l.field-index l.field-items)).refused;
}
