use Rattle.wap_context.proofs.Plays.{if_ok}
use Rattle.wap_context.proofs.Arrivals.{arrives}
use Rattle.wap_context.proofs.context.Context.arrive.Goals as goal

pub returns : goal.returns
returns c =
    if_ok c.enter.result
    (λ next enters.
    arrives c.args.sets c.args.url c.args.deck c.args.self.now c.leave_and_set.new.self
    c.push_card.new.self
    c.enter.new.self c.args.lines.now c.leave_and_set.new.lines c.enter.new.lines
    next
    c.in_ok-leave_and_set.ensures c.in_ok-push_card.ensures enters)
    c.enter.ensures
