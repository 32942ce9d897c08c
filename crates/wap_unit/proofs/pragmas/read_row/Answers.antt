use Rattle.wap_unit.specs.declared.fault.UnitFault.TheVariants.{NoMemory}
use Rattle.wap_unit.specs.reading.UnitReading.{pragma_at}
use Rattle.wap_base.proofs.formats.Loops.{one_more, left_at}
use Rattle.wap_unit.proofs.pragmas.read_row.Goals as goal

pub returns-in_err-pragma : goal.returns-in_err-pragma
returns-in_err-pragma c =
    left_at (λ before. pragma_at) _ _ _ _ _ _ NoMemory (λ read. (read.0, read.1.now)) _ _
    c.from_residual.ensures.1 c.loop-test.true c.in_err-pragma.ensures c.loop.invariant

pub loop-preserved : goal.loop-preserved
loop-preserved c =
    rw c.in_ok-add.ensures.ok
    (one_more (λ before. pragma_at) _ _ _ _ _ _ _ _ c.loop-test.true c.in_ok-pragma.ensures
    c.loop.invariant)
