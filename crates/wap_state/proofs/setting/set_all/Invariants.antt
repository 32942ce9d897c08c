use Rattle.std.proofs.Common.{◌≡◌, ◌++◌}
use Rattle.wap_cardrules.specs.Values.{Pairs}
use Rattle.wap_cardrules.specs.Setting.{set_all}
use Rattle.wap_state.proofs.setting.set_all.Given as goal

abbrev pub invariant-loop-name : goal.invariant-loop-name
invariant-loop-name l = record {
  vars : (set_all l.vars l.name-iterator.rest.items).vars
      ≡ (set_all l.initial.vars l.fn.pairs).vars;
  refused : l.refused ++ (set_all l.vars l.name-iterator.rest.items).refused
      ≡ (set_all l.initial.vars l.fn.pairs).refused;
  -- those that were set, and those that are left
  set : Pairs;
  split : l.fn.pairs ≡ set ++ l.name-iterator.rest.items;
  stands : l.vars ≡ (set_all l.initial.vars set).vars;
}
