use Rattle.std.proofs.Common.{◌≡◌}
use Rattle.wap_layout.specs.Calculation.{lines_of}
use Rattle.wap_layout.specs.inside.Behind.{lines_behind}
use Rattle.wap_layout.proofs.layout.laid_out.Given as goal

abbrev pub invariant-loop-part : goal.invariant-loop-part
invariant-loop-part l =
    lines_behind l.width l.page.lines l.page.mode l.page.text l.part-iterator.rest.items
    ≡ lines_of l.width l.fn.flow
