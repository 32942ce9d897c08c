use Rattle.std.proofs.Common.{take}
use Rattle.std.specs.List.{flat_map}
use Rattle.wap_devices.proofs.Putting.{HasPut}
use Rattle.wap_pages.specs.Printing.{step_text}
use Rattle.wap_pages.proofs.printing.print_steps.Given as goal

-- the first steps were put
abbrev pub invariant-loop-number : goal.invariant-loop-number
invariant-loop-number g l =
    HasPut (flat_map step_text (take l.number-index l.numbers)) (g.O.Sink.seen l.fn.out)
    (g.O.Sink.seen l.out)
