use Rattle.wap_world.specs.Screens.{restart_place}
use Rattle.wap_context.proofs.Plays.{plays_here, plays_none}
use Rattle.wap_context.proofs.context.Context.restart.Goals as goal

pub returns-in-Some : goal.returns-in-Some
returns-in-Some c =
    plays_here restart_place c.self.inside.state c.self.inside.deck c.args.self.now c.self.view_is
    c.card_number-number.result c.card_number-number.ensures c.here.result c.here.ensures
    c.in-Some.here c.in-Some.is
    c.restart.new.self c.args.lines.now c.restart.new.lines c.restart.result c.restart.ensures.plays

pub returns-in-None : goal.returns-in-None
returns-in-None c =
    plays_none restart_place c.self.inside.state c.self.inside.deck c.args.self.now c.self.view_is
    c.card_number-number.result c.card_number-number.ensures c.here.result c.here.ensures
    c.in-None.is c.args.lines.now
