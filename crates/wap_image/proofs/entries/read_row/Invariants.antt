use Rattle.wap_base.specs.formats.ByteReading.{row_at}
use Rattle.wap_image.specs.inside.ImageReading.{entry_at}
use Rattle.wap_base.proofs.formats.Loops.{Continues}
use Rattle.wap_image.proofs.entries.read_row.Given as goal

abbrev pub invariant-loop : goal.invariant-loop
invariant-loop l =
    Continues (λ before. entry_at) l.end l.count l.counter l.entries l.rest
    (row_at entry_at l.count l.end l.bytes)
