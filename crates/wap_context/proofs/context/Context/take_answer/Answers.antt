use Rattle.std.proofs.Common.{[]}
use Rattle.wap_context.specs.Browsers.{IsOver, place_held}
use Rattle.wap_world.specs.Tasks.{try_deck}
use Rattle.wap_context.specs.inside.Moving.{HasDeck}
use Rattle.wap_context.proofs.Plays.{if_ok}
use Rattle.wap_context.proofs.Arrivals.{moves_ok, moves_no}
use Rattle.wap_context.proofs.context.Context.take_answer.Goals as goal

pub returns-in-Ok : goal.returns-in-Ok
returns-in-Ok c =
    if_ok c.try_deck.result
    (λ next.
    moves_ok (try_deck (place_held c.args.self.now) [] c.args.sets c.args.caller.now c.args.url
    c.args.self.now.world) c.args.url c.args.self.now
    c.try_deck.new.self c.args.lines.now c.try_deck.new.lines
    next c.args.answer c.in-Ok.deck
    (λ shelf. IsOver shelf c.args.self.now × HasDeck c.args.url c.in-Ok.deck shelf) c.in-Ok.is
    (λ shelf over has. (over, has)))
    c.try_deck.ensures

pub returns-in-Err : goal.returns-in-Err
returns-in-Err c =
    if_ok c.refuse.result
    (λ next.
    moves_no (try_deck (place_held c.args.self.now) [] c.args.sets c.args.caller.now c.args.url
    c.args.self.now.world) c.args.url c.args.self.now
    c.refuse.new.self c.args.lines.now c.refuse.new.lines next c.args.answer
    c.in-Err.refusal c.in-Err.is)
    c.refuse.ensures
