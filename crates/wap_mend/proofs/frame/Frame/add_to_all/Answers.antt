-- The text is lost, or the first group comes back with it.
use Rattle.std.proofs.Common.{◌≡◌, false, ap, sym, subst, ◌∙◌, refl}
use Rattle.std.proofs.lemmas.Result.{on_ok_weaker}
use Rattle.wap_mend.specs.inside.Frames.{text_load, Framed, Collects}
use Rattle.wap_mend.proofs.Loads.{noted_as, still_refl}
use Rattle.wap_mend.proofs.Framing.{gains_lost, all_gains, text_collects}
use Rattle.wap_mend.proofs.frame.Frame.add_to_all.Goals as goal

pub returns-then-is_in_order : goal.returns-then-is_in_order
returns-then-is_in_order c =
    let frame = c.args.self.now in
    on_ok_weaker c.note_lost.result
    (λ noted.
    gains_lost c.args.notes.now.changes c.note_lost.new.self.changes frame frame
    (text_load c.args.parts.now) refl
    (noted_as c.args.notes.now.changes c.note_lost.new.self.changes _ _ c.in_ok-of_text.ensures
    noted)) c.note_lost.ensures.lost

pub returns : goal.returns
returns c =
    let inside = c.self.inside in
    let changes = c.args.notes.now.changes in
    let new = c.add_text.new.self in
    let more = text_load c.args.parts.now in
    let out : inside.first.rule.in_order ≡ false =
    ap (λ (f : Framed). f.rule.in_order) c.self.view_is ∙ sym c.is_in_order.ensures
    ∙ c.if-is_in_order.false in
    all_gains changes changes c.args.self.now inside.first new inside.second inside.third
    inside.run more c.self.view_is c.self.invariant out
    (subst (λ first. Collects changes changes first new more) c.replace-first.ensures.value
    (text_collects changes changes c.replace-first.result new c.args.parts.now
    c.in_ok-add_text.ensures (still_refl changes)))
