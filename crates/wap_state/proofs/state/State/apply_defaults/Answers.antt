use Rattle.std.proofs.Common.{subst}
use Rattle.wap_world.specs.World.{World}
use Rattle.wap_cards.specs.inputs.Stopped.{DefaultsStand}
use Rattle.wap_base.proofs.Choices.{on_err}
use Rattle.wap_state.proofs.Stopping.{defaults_stand}
use Rattle.wap_state.proofs.state.State.apply_defaults.Goals as goal

pub returns-in_err-refused-clause-stopped : goal.returns-in_err-refused-clause-stopped
returns-in_err-refused-clause-stopped c =
    let now = c.apply_defaults.new.vars in
    on_err c.from_residual.result (DefaultsStand c.args.self.now.vars c.args.card.now now)
    (subst (λ (world : World). DefaultsStand world.vars c.args.card.now now) c.self.view_is
    c.in_err-refused.ensures.stopped)

pub returns-clause-stopped : goal.returns-clause-stopped
returns-clause-stopped c =
    let now = c.apply_defaults.new.vars in
    on_err c.add_fault_lines.result (DefaultsStand c.args.self.now.vars c.args.card.now now)
    (subst (λ (world : World). DefaultsStand world.vars c.args.card.now now) c.self.view_is
    (defaults_stand c.self.inside.vars now c.args.card.now c.in_ok-refused.ensures.vars))
