-- A timer is the second group, or is noted if there is one.
use Rattle.std.proofs.Common.{◌≡◌, None, refl, arith}
use Rattle.std.proofs.lemmas.Result.{on_ok_weaker}
use Rattle.wap_mend.specs.inside.Frames.{load_built}
use Rattle.wap_mend.proofs.Loads.{noted_built, still_refl}
use Rattle.wap_mend.proofs.Framing.{gains_lost, second_gains}
use Rattle.wap_mend.proofs.frame.Frame.add_timer.Goals as goal

pub returns-then-is_some-clause-gains : goal.returns-then-is_some-clause-gains
returns-then-is_some-clause-gains c =
    let frame = c.args.self.now in
    on_ok_weaker c.note_lost.result
    (λ noted.
    gains_lost c.args.notes.now.changes c.note_lost.new.self.changes frame frame
    (load_built c.args.element) refl
    (noted_built c.args.notes.now.changes c.note_lost.new.self.changes c.in_ok-lost.field-0
    c.args.element c.in_ok-lost.ensures noted)) c.note_lost.ensures.lost

pub returns-clause-gains : goal.returns-clause-gains
returns-clause-gains c =
    let inside = c.self.inside in
    let changes = c.args.notes.now.changes in
    let none : inside.second ≡ None = grind (arith) in
    second_gains changes changes c.args.self.now inside.first inside.second inside.third
    inside.run c.args.element c.self.view_is none c.requires (still_refl changes)
