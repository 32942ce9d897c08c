use Rattle.wap_base.specs.formats.ByteReading.{row_at}
use Rattle.wap_unit.specs.reading.UnitReading.{name_at}
use Rattle.wap_base.proofs.formats.Loops.{Continues}
use Rattle.wap_unit.proofs.functions.read_names.Given as goal

abbrev pub invariant-loop : goal.invariant-loop
invariant-loop l =
    Continues (λ before. name_at l.functions) l.end l.count l.counter l.names l.rest
    (row_at (name_at l.functions) l.count l.end l.bytes)
