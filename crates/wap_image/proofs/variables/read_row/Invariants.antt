use Rattle.std.proofs.Common.{[]}
use Rattle.wap_base.specs.formats.ByteReading.{many}
use Rattle.wap_image.specs.inside.ImageReading.{variable_at}
use Rattle.wap_base.proofs.formats.Loops.{Continues}
use Rattle.wap_image.proofs.variables.read_row.Given as goal

abbrev pub invariant-loop : goal.invariant-loop
invariant-loop l =
    Continues variable_at l.end l.count l.counter l.variables l.rest
    (many variable_at l.count [] l.end l.bytes)
