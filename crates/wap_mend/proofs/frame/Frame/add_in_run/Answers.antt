-- The paragraph that is open comes back with the element.
use Rattle.std.proofs.Common.{subst}
use Rattle.wap_mend.specs.inside.Frames.{load_built, Collects}
use Rattle.wap_mend.proofs.Framing.{run_gains}
use Rattle.wap_mend.proofs.frame.Frame.add_in_run.Goals as goal

pub returns : goal.returns
returns c =
    let inside = c.self.inside in
    let before = c.args.notes.now.changes in
    let after = c.add_one.new.notes.changes in
    let new = c.add_one.new.content in
    let more = load_built c.args.element in
    run_gains before after c.args.self.now inside.first inside.second inside.third inside.run new
    more c.self.view_is
    (subst (λ run. Collects before after run new more) c.replace-run.ensures.value
    c.in_ok-add_one.ensures)
