use Rattle.std.proofs.Common.{◌∙◌, sym}
use Rattle.wap_world.specs.Screens.{screen_lines}
use Rattle.wap_context.proofs.Plays.{plays_seen, plays_nowhere}
use Rattle.wap_context.proofs.context.Context.add_screen.Goals as goal

pub returns-in-Some : goal.returns-in-Some
returns-in-Some c =
    plays_seen screen_lines c.self.inside.state c.self.inside.deck c.args.self.now c.self.view_is
    c.in-Some.here (sym c.here.ensures ∙ c.in-Some.is)
    c.args.lines.now c.add_screen.new.lines c.add_screen.result c.add_screen.ensures.plays

pub returns-in-None : goal.returns-in-None
returns-in-None c =
    plays_nowhere screen_lines c.args.self.now c.args.lines.now (sym c.here.ensures ∙ c.in-None.is)
