-- What is no event and no timer comes to the others.
use Rattle.std.proofs.Common.{◌≡◌, ◌++◌, ◌∷◌, [], ap, ◌∙◌}
use Rattle.std.proofs.lemmas.Result.{on_ok_weaker}
use Rattle.wap_mend.specs.inside.Frames.{Framed}
use Rattle.wap_mend.proofs.Loads.{still_refl}
use Rattle.wap_mend.proofs.Framing.{third_gains}
use Rattle.wap_mend.proofs.frame.Frame.add_by_tag.Goals as goal

pub returns-in_default : goal.returns-in_default
returns-in_default c =
    let inside = c.self.inside in
    let changes = c.args.notes.now.changes in
    let new = c.add.new.self in
    record {
      gains =
          on_ok_weaker c.add.result
          (λ (same : new ≡ inside.third ++ c.args.element ∷ []).
          third_gains changes changes c.args.self.now inside.first inside.second inside.third new
          inside.run c.args.element c.self.view_is same c.requires.running (still_refl changes))
          c.add.ensures.ok;
      running = ap (λ (f : Framed). f.running) c.self.view_is ∙ c.requires.running;
    }
