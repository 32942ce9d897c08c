use Rattle.wap_context.proofs.Takings.{asked_rejected}
use Rattle.wap_context.proofs.asking.ask.Goals as goal

pub returns-in_err-request_line : goal.returns-in_err-request_line
returns-in_err-request_line g c =
    asked_rejected c.from_residual.result c.from_residual.ensures.0 c.from_residual.ensures.1

pub returns-in_err-add : goal.returns-in_err-add
returns-in_err-add g c =
    asked_rejected c.from_residual-in_err-add.result c.from_residual-in_err-add.ensures.0
    c.from_residual-in_err-add.ensures.1

pub returns-in_err-name : goal.returns-in_err-name
returns-in_err-name g c =
    asked_rejected c.from_residual-in_err-name.result c.from_residual-in_err-name.ensures.0
    c.from_residual-in_err-name.ensures.1
