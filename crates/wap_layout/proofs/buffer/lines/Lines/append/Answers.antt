use Rattle.std.proofs.Common.{◌≡◌, ◌++◌, sym, ap, ap₂, subst₂, ◌∙◌}
use Rattle.wap_layout.specs.buffer.inside.Cuts.{lines_at, AreLines}
use Rattle.wap_layout.proofs.BufferLemmas.CutLaws.{more_lines, are_more_lines}
use Rattle.wap_layout.proofs.buffer.lines.Lines.append.Goals as goal

pub invariant_of-self-in-Ok : goal.invariant_of-self-in-Ok
invariant_of-self-in-Ok c =
    let own = c.self.inside in
    let more = c.more.inside in
    let written : c.extend_from_slice.new.self.items ≡ own.written.items ++ more.written.items =
    c.in_ok-extend_from_slice.ensures.ok
    ∙ ap (λ l. own.written.items ++ l) c.as_slice.ensures in
    let lengths : c.extend_from_slice-2.new.self.items ≡ own.lengths.items ++ more.lengths.items =
    c.in-Ok.ensures.ok ∙ ap (λ l. own.lengths.items ++ l) c.as_slice-2.ensures in
    subst₂ AreLines (sym written) (sym lengths)
    (are_more_lines own.written.items more.written.items own.lengths.items more.lengths.items
    c.self.invariant c.more.invariant)

pub returns-in-Ok-clause-ok : goal.returns-in-Ok-clause-ok
returns-in-Ok-clause-ok c =
    let own = c.self.inside in
    let more = c.more.inside in
    let written : c.extend_from_slice.new.self.items ≡ own.written.items ++ more.written.items =
    c.in_ok-extend_from_slice.ensures.ok
    ∙ ap (λ l. own.written.items ++ l) c.as_slice.ensures in
    let lengths : c.extend_from_slice-2.new.self.items ≡ own.lengths.items ++ more.lengths.items =
    c.in-Ok.ensures.ok ∙ ap (λ l. own.lengths.items ++ l) c.as_slice-2.ensures in
    ap₂ lines_at written lengths
    ∙ more_lines own.written.items more.written.items own.lengths.items more.lengths.items
    c.self.invariant
    ∙ ap₂ (λ a b. a ++ b) c.self.view_is c.more.view_is
