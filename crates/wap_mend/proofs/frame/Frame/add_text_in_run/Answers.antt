-- The paragraph that is open comes back with the text.
use Rattle.std.proofs.Common.{ap, subst, ◌∙◌}
use Rattle.wap_mend.specs.inside.Building.{Filled}
use Rattle.wap_mend.specs.inside.Frames.{nothing, text_load, framed, Collects}
use Rattle.wap_mend.proofs.Loads.{still_refl}
use Rattle.wap_mend.proofs.Framing.{paragraph_text, text_collects, run_gains, gains_then}
use Rattle.wap_mend.proofs.frame.Frame.add_text_in_run.Goals as goal

pub add_text-requires-clause-text : goal.add_text-requires-clause-text
add_text-requires-clause-text c =
    paragraph_text c.replace-run.result.rule
    (ap (λ (f : Filled). f.rule) c.replace-run.ensures.value ∙ c.self.invariant.paragraph)

pub returns : goal.returns
returns c =
    let inside = c.self.inside in
    let after = c.begin_run.new.notes.changes in
    let new = c.add_text.new.self in
    let more = text_load c.args.parts.now in
    gains_then c.args.notes.now.changes after after c.args.self.now c.begin_run.new.self
    (framed inside.first inside.second inside.third new) nothing more c.in_ok-begin_run.ensures
    (run_gains after after c.begin_run.new.self inside.first inside.second inside.third
    inside.run new more c.self.view_is
    (subst (λ run. Collects after after run new more) c.replace-run.ensures.value
    (text_collects after after c.replace-run.result new c.args.parts.now c.in_ok-add_text.ensures
    (still_refl after))))
