use Rattle.wap_unit.specs.declared.fault.UnitFault.TheVariants.{NoMemory}
use Rattle.wap_unit.specs.reading.UnitReading.{name_at}
use Rattle.wap_base.proofs.formats.Loops.{one_more, left_at}
use Rattle.wap_unit.proofs.functions.read_names.Goals as goal

pub returns-in_err-name : goal.returns-in_err-name
returns-in_err-name c =
    left_at (λ before. name_at c.args.functions) _ _ _ _ _ _ NoMemory (λ read. (read.0, read.1.now))
    _ _
    c.from_residual.ensures.1 c.loop-test.true c.in_err-name.ensures c.loop.invariant

pub loop-preserved : goal.loop-preserved
loop-preserved c =
    rw c.in_ok-add.ensures.ok
    (one_more (λ before. name_at c.args.functions) _ _ _ _ _ _ _ _ c.loop-test.true
    c.in_ok-name.ensures
    c.loop.invariant)
