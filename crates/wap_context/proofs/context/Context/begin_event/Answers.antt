use Rattle.wap_context.proofs.Arrivals.{begin_some, begin_none}
use Rattle.wap_context.proofs.context.Context.begin_event.Goals as goal

pub returns-in-Some : goal.returns-in-Some
returns-in-Some c =
    begin_some c.args.event c.args.self.now c.args.lines.now c.in_ok-task.field-0
    c.in-Some.task c.in_ok-task.ensures c.in-Some.is

pub returns-in_ok-add_show-in-None : goal.returns-in_ok-add_show-in-None
returns-in_ok-add_show-in-None c =
    begin_none c.args.event c.args.self.now c.add_show.new.self c.args.lines.now
    c.add_show.new.lines c.in_ok-task.field-0 c.in_ok-task.ensures c.in-None.is
    c.in_ok-add_show-in-None.ensures.plays
