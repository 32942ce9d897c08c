use Rattle.std.proofs.Common.{◌∙◌, sym}
use Rattle.wap_world.specs.Screens.{at_place, restart_place}
use Rattle.wap_world.specs.Tasks.{leave_and_set}
use Rattle.wap_context.proofs.Plays.{on_ok, plays_at_then, refresh_joined, some_held}
use Rattle.wap_context.proofs.context.Context.refresh.Goals as goal

pub returns : goal.returns
returns c =
    let found = some_held c.here.result c.if-is_none.ensures in
    on_ok c.restart.result
    (λ two.
    refresh_joined c.args.sets c.args.self.now c.restart.new.self c.args.lines.now
    c.restart.new.lines found.0
    (sym c.here.ensures ∙ found.1)
    (plays_at_then (λ place. leave_and_set place c.args.sets)
    (at_place restart_place) c.args.self.now c.leave_and_set.new.self
    c.restart.new.self c.args.lines.now c.leave_and_set.new.lines c.restart.new.lines
    c.in_ok-leave_and_set.ensures two))
    c.restart.ensures
