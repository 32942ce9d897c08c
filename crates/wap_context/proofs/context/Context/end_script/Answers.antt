use Rattle.wap_context.proofs.context.Context.end_script.Goals as goal

pub returns-in-Fatal : goal.returns-in-Fatal
returns-in-Fatal c = rw c.in-Fatal.is c.end_failed.ensures
