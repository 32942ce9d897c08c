use Rattle.std.proofs.Common.{ap, ◌∙◌}
use Rattle.wap_layout.specs.buffer.Written.{lines_bytes}
use Rattle.wap_layout.proofs.BufferLemmas.CutLaws.{written_again}
use Rattle.wap_layout.proofs.buffer.lines.Lines.as_written.Goals as goal

pub returns : goal.returns
returns c =
    c.as_slice.ensures
    ∙ written_again c.self.inside.written.items c.self.inside.lengths.items c.self.invariant
    ∙ ap lines_bytes c.self.view_is
