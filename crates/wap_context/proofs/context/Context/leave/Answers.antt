use Rattle.std.proofs.Common.{ap, subst}
use Rattle.std.specs.Prelude.{OnOk}
use Rattle.wap_tokens.specs.declared.markup.deck.Node.{Node}
use Rattle.wap_world.specs.Entering.{leave_place}
use Rattle.wap_world.specs.Timers.{store_left}
use Rattle.wap_state.specs.CardAtHand.{Held}
use Rattle.wap_state.specs.Scenes.{Plays}
use Rattle.wap_context.proofs.Plays.{plays_here, plays_none}
use Rattle.wap_context.proofs.context.Context.leave.Goals as goal

pub returns-in-Some : goal.returns-in-Some
returns-in-Some c =
    plays_here leave_place
    c.self.inside.state c.self.inside.deck c.args.self.now c.self.view_is
    c.card_number-number.result c.card_number-number.ensures c.here.result c.here.ensures
    c.in-Some.here c.in-Some.is
    c.store_left.new.self c.args.lines.now c.store_left.new.lines c.store_left.result
    (λ url. subst (λ (card : Node). OnOk c.store_left.result
    (Plays (store_left c.self.inside.state.timer card c.self.inside.state)
    c.self.inside.state c.store_left.new.self
    c.args.lines.now c.store_left.new.lines))
    (ap (λ (one : Held). one.card) c.here-in-Some.view_is) c.store_left.ensures.plays)

pub returns-in-None : goal.returns-in-None
returns-in-None c =
    plays_none leave_place c.self.inside.state c.self.inside.deck c.args.self.now c.self.view_is
    c.card_number-number.result c.card_number-number.ensures c.here.result c.here.ensures
    c.in-None.is c.args.lines.now
