-- The paragraph that is open ends, and the groups come behind one another.
use Rattle.std.proofs.Common.{ap, sym, subst, ◌∙◌}
use Rattle.wap_mend.specs.inside.Frames.{Framed, nothing, Gains}
use Rattle.wap_mend.proofs.Framing.{closes}
use Rattle.wap_mend.proofs.frame.Frame.close.Goals as goal

pub returns : goal.returns
returns c =
    let inside = c.self.inside in
    let before = c.args.notes.now.changes in
    let one = c.end_run.new.notes.changes in
    let two = c.add_any.new.notes.changes in
    let after = c.add_all.new.notes.changes in
    closes before one two after c.args.self inside.first inside.second inside.third inside.run
    c.add_any.new.content c.add_all.new.content
    (subst (λ (frame : Framed). Gains before one c.args.self frame nothing) (sym c.self.view_is)
    c.in_ok-end_run.ensures.gains)
    (ap (λ (f : Framed). f.running) c.self.view_is ∙ c.in_ok-end_run.ensures.running)
    c.in_ok-add_any.ensures c.in_ok-add_all.ensures
