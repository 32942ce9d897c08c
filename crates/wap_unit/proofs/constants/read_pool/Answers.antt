use Rattle.wap_unit.specs.declared.fault.UnitFault.TheVariants.{NoMemory}
use Rattle.wap_unit.specs.reading.UnitReading.{constant_at}
use Rattle.wap_base.proofs.formats.Loops.{one_more, left_at}
use Rattle.wap_unit.proofs.constants.read_pool.Goals as goal

pub returns-in_err-constant : goal.returns-in_err-constant
returns-in_err-constant c =
    left_at (λ before. constant_at c.args.set) _ _ _ _ _ _ NoMemory (λ read. (read.0, read.1.now)) _
    _
    c.from_residual.ensures.1 c.loop-test.true c.in_err-constant.ensures c.loop.invariant

pub loop-preserved : goal.loop-preserved
loop-preserved c =
    rw c.in_ok-add.ensures.ok
    (one_more (λ before. constant_at c.args.set) _ _ _ _ _ _ _ _ c.loop-test.true
    c.in_ok-constant.ensures
    c.loop.invariant)
