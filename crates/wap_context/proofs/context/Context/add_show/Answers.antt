use Rattle.wap_world.specs.Screens.{show_place}
use Rattle.wap_context.proofs.Plays.{plays_here, plays_none}
use Rattle.wap_context.proofs.context.Context.add_show.Goals as goal

pub returns-in-Some-clause-plays : goal.returns-in-Some-clause-plays
returns-in-Some-clause-plays c =
    plays_here show_place c.self.inside.state c.self.inside.deck c.args.self.now c.self.view_is
    c.card_number-number.result c.card_number-number.ensures c.here.result c.here.ensures
    c.in-Some.here c.in-Some.is
    c.show.new.self c.args.lines.now c.show.new.lines c.show.result c.show.ensures.plays

pub returns-in-None-clause-plays : goal.returns-in-None-clause-plays
returns-in-None-clause-plays c =
    plays_none show_place c.self.inside.state c.self.inside.deck c.args.self.now c.self.view_is
    c.card_number-number.result c.card_number-number.ensures c.here.result c.here.ensures
    c.in-None.is c.args.lines.now
