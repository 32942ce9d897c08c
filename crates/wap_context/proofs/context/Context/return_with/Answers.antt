use Rattle.std.proofs.Common.{[]}
use Rattle.wap_context.specs.Browsers.{place_held}
use Rattle.wap_world.specs.Tasks.{return}
use Rattle.wap_context.specs.inside.Moving.{HasDeck}
use Rattle.wap_context.proofs.Plays.{if_ok}
use Rattle.wap_context.proofs.Arrivals.{moves_ok, moves_no}
use Rattle.wap_context.proofs.context.Context.return_with.Goals as goal

pub returns-in-Ok : goal.returns-in-Ok
returns-in-Ok c =
    if_ok c.return_to.result
    (λ next.
    moves_ok (return (place_held c.args.self.now) [] c.args.sets c.args.earlier
    c.args.self.now.world) c.args.earlier.url c.args.self.now
    c.return_to.new.self c.args.lines.now c.return_to.new.lines
    next c.args.answer c.in-Ok.deck
    (HasDeck c.args.earlier.url c.in-Ok.deck) c.in-Ok.is (λ shelf over has. has))
    c.return_to.ensures

pub returns-in-Err : goal.returns-in-Err
returns-in-Err c =
    if_ok c.refuse.result
    (λ next.
    moves_no (return (place_held c.args.self.now) [] c.args.sets c.args.earlier
    c.args.self.now.world) c.args.earlier.url c.args.self.now
    c.refuse.new.self c.args.lines.now c.refuse.new.lines next c.args.answer
    c.in-Err.refusal c.in-Err.is)
    c.refuse.ensures
