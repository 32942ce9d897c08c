use Rattle.wap_base.specs.formats.ByteReading.{row_at}
use Rattle.wap_unit.specs.reading.UnitReading.{pragma_at}
use Rattle.wap_base.proofs.formats.Loops.{Continues}
use Rattle.wap_unit.proofs.pragmas.read_row.Given as goal

abbrev pub invariant-loop : goal.invariant-loop
invariant-loop l =
    Continues (λ before. pragma_at) l.end l.count l.counter l.pragmas l.rest
    (row_at pragma_at l.count l.end l.bytes)
