use Rattle.wap_world.specs.Entering.{leave}
use Rattle.wap_world.specs.Setting.{set_variables}
use Rattle.wap_context.proofs.Plays.{on_ok, plays_at_then}
use Rattle.wap_context.proofs.context.Context.leave_and_set.Goals as goal

pub returns : goal.returns
returns c =
    on_ok c.set_variables.result
    (plays_at_then leave
    (λ place. set_variables c.args.sets) c.args.self.now c.leave.new.self
    c.set_variables.new.self c.args.lines.now c.leave.new.lines c.set_variables.new.lines
    c.in_ok-leave.ensures)
    c.set_variables.ensures
