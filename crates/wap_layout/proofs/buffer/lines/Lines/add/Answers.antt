use Rattle.std.proofs.Common.{◌∷◌, ◌++◌, [], length, sym, ap₂, subst₂, ◌∙◌}
use Rattle.wap_base.specs.Ascii.{line_feed}
use Rattle.wap_layout.specs.buffer.inside.Cuts.{lines_at, AreLines}
use Rattle.wap_layout.proofs.BufferLemmas.CutLaws.{more_lines, are_more_lines, line_at, is_one}
use Rattle.wap_layout.proofs.buffer.lines.Lines.add.Goals as goal

pub invariant_of-self-in-Ok : goal.invariant_of-self-in-Ok
invariant_of-self-in-Ok c =
    let own = c.self.inside in
    let line = c.args.line.now in
    subst₂ AreLines (sym c.in-Ok.ensures.ok) (sym c.in_ok-push.ensures.ok)
    (are_more_lines own.written.items (line ++ line_feed ∷ []) own.lengths.items
    (length line ∷ []) c.self.invariant (is_one line c.utf8.line))

pub returns-in-Ok-clause-ok : goal.returns-in-Ok-clause-ok
returns-in-Ok-clause-ok c =
    let own = c.self.inside in
    let line = c.args.line.now in
    ap₂ lines_at c.in-Ok.ensures.ok c.in_ok-push.ensures.ok
    ∙ more_lines own.written.items (line ++ line_feed ∷ []) own.lengths.items
    (length line ∷ []) c.self.invariant
    ∙ ap₂ (λ a b. a ++ b) c.self.view_is (line_at line)
