use Rattle.wap_asm.proofs.Near.{operation_near}
use Rattle.wap_asm.proofs.table.operation_of.Goals as goal

pub returns : goal.returns
returns c = operation_near c.args.name c.operation_in.result c.operation_in.ensures
