use Rattle.wap_base.specs.formats.ByteReading.{row_at}
use Rattle.wap_unit.specs.reading.UnitReading.{function_at}
use Rattle.wap_base.proofs.formats.Loops.{Continues}
use Rattle.wap_unit.proofs.functions.read_bodies.Given as goal

abbrev pub invariant-loop : goal.invariant-loop
invariant-loop l =
    Continues (λ before. function_at) l.end l.count l.counter l.functions l.rest
    (row_at function_at l.count l.end l.bytes)
