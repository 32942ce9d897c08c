use Rattle.wap_context.proofs.Plays.{if_ok}
use Rattle.wap_context.proofs.Arrivals.{enters_by}
use Rattle.wap_context.proofs.context.Context.enter.Goals as goal

pub returns : goal.returns
returns c =
    if_ok c.begin_event.result
    (λ next.
    enters_by c.args.event c.args.self.now c.reset_timer.new.self c.begin_event.new.self
    c.args.lines.now c.begin_event.new.lines next c.reset_timer.ensures)
    c.begin_event.ensures
