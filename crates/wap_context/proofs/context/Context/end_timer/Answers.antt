use Rattle.std.proofs.Common.{ap, subst}
use Rattle.std.specs.Prelude.{OnOk}
use Rattle.wap_tokens.specs.declared.markup.deck.Node.{Node}
use Rattle.wap_world.specs.Timers.{end_timer}
use Rattle.wap_state.specs.CardAtHand.{Held}
use Rattle.wap_state.specs.Scenes.{Plays}
use Rattle.wap_context.specs.inside.Ticking.{end_place}
use Rattle.wap_context.proofs.Plays.{plays_here, plays_none}
use Rattle.wap_context.proofs.context.Context.end_timer.Goals as goal

pub returns-in-Some : goal.returns-in-Some
returns-in-Some c =
    plays_here end_place
    c.self.inside.state c.self.inside.deck c.args.self.now c.self.view_is
    c.card_number-number.result c.card_number-number.ensures c.here.result c.here.ensures
    c.in-Some.here c.in-Some.is
    c.end_timer.new.self c.args.lines.now c.end_timer.new.lines c.end_timer.result
    (λ url. subst (λ (card : Node). OnOk c.end_timer.result
    (Plays (end_timer card c.self.inside.state) c.self.inside.state c.end_timer.new.self
    c.args.lines.now c.end_timer.new.lines))
    (ap (λ (one : Held). one.card) c.here-in-Some.view_is) c.end_timer.ensures.plays)

pub returns-in-None : goal.returns-in-None
returns-in-None c =
    plays_none end_place c.self.inside.state c.self.inside.deck c.args.self.now c.self.view_is
    c.card_number-number.result c.card_number-number.ensures c.here.result c.here.ensures
    c.in-None.is c.args.lines.now
