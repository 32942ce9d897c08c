use Rattle.wap_context.proofs.Passing.{runs_out, pursues_rejected}
use Rattle.wap_context.proofs.context.Context.run_out.Goals as goal

pub returns : goal.returns
returns g c =
    runs_out c.args.self.now c.end_timer.new.self c.args.lines c.end_timer.new.lines
    c.in_ok-task.task c.went_to.result c.in_ok-end_timer.ensures c.in_ok-task.ensures
    c.went_to.ensures.next c.went_to.ensures.none (g.P.Pages.seen c.args.pages.now)
    (g.P.Pages.seen c.follow.new.pages) c.follow.new.self c.follow.result c.follow.ensures

pub returns-in_err-end_timer : goal.returns-in_err-end_timer
returns-in_err-end_timer g c =
    pursues_rejected c.from_residual.result c.from_residual.ensures.0 c.from_residual.ensures.1

pub returns-in_err-task : goal.returns-in_err-task
returns-in_err-task g c =
    pursues_rejected c.from_residual-in_err-task.result c.from_residual-in_err-task.ensures.0
    c.from_residual-in_err-task.ensures.1
