use Rattle.std.proofs.Common.{◌∷◌, [], ◌++◌, rules}
use Rattle.wap_cardrules.specs.Setting.{set_all}
use Rattle.wap_cards.specs.inputs.Stopped.{FirstStand}
use Rattle.wap_base.proofs.Choices.{on_err}
use Rattle.wap_state.proofs.Stopping.{split_next, stands_next, refused_next, stopped_there}
use Rattle.wap_state.proofs.setting.set_all.Goals as goal

pub returns-in_err-set_one-clause-stopped : goal.returns-in_err-set_one-clause-stopped
returns-in_err-set_one-clause-stopped c =
    let all = c.loop-name.invariant in
    on_err c.from_residual.result
    (FirstStand c.args.vars.now c.args.pairs c.set_one.new.vars)
    (stopped_there c.args.pairs all.set c.loop-name.name-iterator.rest.items
    c.next.new.self.rest.items c.in-Some.name c.in-Some.text all.split c.args.vars.now
    c.loop-name.vars c.set_one.new.vars all.stands c.in_err-set_one.ensures.kept)

pub loop-name-preserved : goal.loop-name-preserved
loop-name-preserved c =
    let all = c.loop-name.invariant in
    let items = c.loop-name.name-iterator.rest.items in
    let left = c.next.new.self.rest.items in
    record {
      vars = search rules;
      refused = refused_next c.args.pairs all.set items left c.in-Some.name c.in-Some.text all.split
          c.loop-name.vars c.set_one.new.vars c.loop-name.refused c.set_one.new.refused
          (set_all c.args.vars.now c.args.pairs).refused c.in-Some.ensures.steps.0
          c.in_ok-set_one.ensures.set c.in_ok-set_one.ensures.refused all.refused;
      set = all.set ++ (c.in-Some.name, c.in-Some.text) ∷ [];
      split = split_next c.args.pairs all.set items left c.in-Some.name c.in-Some.text all.split
          c.in-Some.ensures.steps.0;
      stands = stands_next c.args.pairs all.set items left c.in-Some.name c.in-Some.text all.split
          c.args.vars.now c.loop-name.vars c.set_one.new.vars all.stands
          c.in_ok-set_one.ensures.set;
    }
