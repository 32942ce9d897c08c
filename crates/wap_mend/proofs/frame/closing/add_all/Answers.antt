-- Elements are added one after another.
use Rattle.std.proofs.Common.{◌≡◌, [], ◌∙◌, sym, subst, arith}
use Rattle.std.proofs.lemmas.List.{nil_from_length}
use Rattle.wap_mend.specs.inside.Frames.{load_all, load_built, Collects}
use Rattle.wap_mend.proofs.Loads.{still_refl}
use Rattle.wap_mend.proofs.Framing.{collects_then, nothing_collected}
use Rattle.wap_mend.proofs.frame.closing.add_all.Goals as goal

pub loop-element-init : goal.loop-element-init
loop-element-init c after content =
    subst (λ elements.
    Collects c.args.notes.now.changes after c.args.content.now content (load_all elements))
    (c.into_iter-element-iterator.ensures.into_iter_gives.0 ∙ c.into_vec-element-items.ensures)

pub loop-element-preserved : goal.loop-element-preserved
loop-element-preserved c after content others =
    let before = c.loop-element in
    c.loop-element.invariant after content
    (subst (λ elements.
    Collects before.notes.changes after before.content content (load_all elements))
    (sym c.in-Some.ensures.steps.0)
    (collects_then before.notes.changes c.add_one.new.notes.changes after before.content
    c.add_one.new.content content (load_built c.in-Some.element)
    (load_all c.next.new.self.rest.items) c.in_ok-add_one.ensures others))

pub returns : goal.returns
returns c =
    let end = c.loop-element in
    let rest = end.element-iterator.rest in
    let empty : rest.items ≡ [] =
    nil_from_length rest.items (omega (arith, rest.ok.0, c.in-None.ensures.steps.0)) in
    c.loop-element.invariant end.notes.changes end.content
    (subst (λ elements.
    Collects end.notes.changes end.notes.changes end.content end.content (load_all elements))
    (sym empty) (nothing_collected end.notes.changes end.notes.changes end.content
    (still_refl end.notes.changes)))
