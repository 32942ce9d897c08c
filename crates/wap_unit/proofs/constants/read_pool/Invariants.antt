use Rattle.wap_base.specs.formats.ByteReading.{row_at}
use Rattle.wap_unit.specs.reading.UnitReading.{constant_at}
use Rattle.wap_base.proofs.formats.Loops.{Continues}
use Rattle.wap_unit.proofs.constants.read_pool.Given as goal

abbrev pub invariant-loop : goal.invariant-loop
invariant-loop l =
    Continues (λ before. constant_at l.set) l.end l.count l.counter l.constants l.rest
    (row_at (constant_at l.set) l.count l.end l.bytes)
