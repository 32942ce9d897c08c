use Rattle.wap_world.specs.Setting.{set_variables}
use Rattle.wap_context.proofs.Plays.{plays_at_set}
use Rattle.wap_context.proofs.context.Context.set_variables.Goals as goal

pub returns : goal.returns
returns c =
    plays_at_set (set_variables c.args.sets)
    c.self.inside.state c.self.inside.deck c.args.self.now c.self.view_is
    c.set_variables.new.self c.args.lines.now c.set_variables.new.lines c.set_variables.result
    c.set_variables.ensures.plays
