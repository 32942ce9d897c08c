use Rattle.wap_context.proofs.Takings.{asked_rejected}
use Rattle.wap_context.proofs.asking.ask_for.Goals as goal

pub returns-in_err-copy_url : goal.returns-in_err-copy_url
returns-in_err-copy_url g c =
    asked_rejected c.from_residual.result c.from_residual.ensures.0 c.from_residual.ensures.1
