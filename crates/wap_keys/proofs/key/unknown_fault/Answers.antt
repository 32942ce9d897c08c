use Rattle.wap_keys.proofs.WordLaws.{text_fault, other_fault}
use Rattle.wap_keys.proofs.key.unknown_fault.Goals as goal

pub returns-in-Ok : goal.returns-in-Ok
returns-in-Ok c = text_fault c.args.line.now c.in-Ok.ensures.cases.1

pub returns-in-Err : goal.returns-in-Err
returns-in-Err c = other_fault c.args.line.now c.in-Err.ensures.cases.0
