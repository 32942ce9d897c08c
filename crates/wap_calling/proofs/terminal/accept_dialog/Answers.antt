use Rattle.std.proofs.lemmas.Result.{IfOk-weaker}
use Rattle.wap_calling.proofs.terminal.accept_dialog.Goals as goal

pub returns-clause-answered : goal.returns-clause-answered
returns-clause-answered g c =
    IfOk-weaker c.feed.result _ _
    (λ lines leads waits judged may over. (leads judged may over).tells) c.feed.ensures.plays.leads
