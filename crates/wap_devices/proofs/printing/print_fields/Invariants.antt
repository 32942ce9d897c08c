use Rattle.std.proofs.Common.{take}
use Rattle.std.specs.List.{flat_map}
use Rattle.wap_devices.proofs.Putting.{HasPut}
use Rattle.wap_devices.specs.Printing.{field_text}
use Rattle.wap_devices.proofs.printing.print_fields.Given as goal

-- the first fields were put
abbrev pub invariant-loop-field : goal.invariant-loop-field
invariant-loop-field g l =
    HasPut (flat_map field_text (take l.field-index l.fields)) (g.O.Sink.seen l.fn.out)
    (g.O.Sink.seen l.out)
