-- The first group comes back with the element.
use Rattle.std.proofs.Common.{ap, sym, subst, ◌∙◌}
use Rattle.wap_mend.specs.inside.Frames.{load_built, Collects, Framed, IsFramed}
use Rattle.wap_mend.proofs.Framing.{first_taken, first_kept, first_added}
use Rattle.wap_mend.proofs.frame.Frame.add_to_first.Goals as goal

pub invariant_of-self : goal.invariant_of-self
invariant_of-self c =
    let inside = c.self.inside in
    subst (λ first. IsFramed first inside.second inside.third inside.run)
    (sym (c.replace-first.ensures.after ∙ c.new.ensures))
    (first_taken 0 inside.first inside.second inside.third inside.run c.self.invariant)

pub invariant_of-self-2 : goal.invariant_of-self-2
invariant_of-self-2 c =
    let inside = c.self.inside in
    let before = c.args.notes.now.changes in
    let after = c.add_one.new.notes.changes in
    let new = c.add_one.new.content in
    let more = load_built c.args.element in
    first_kept before after inside.first new inside.second inside.third inside.run more
    c.self.invariant
    (λ order. c.requires (sym (ap (λ (f : Framed). f.rule.in_order) c.self.view_is) ∙ order))
    (subst (λ first. Collects before after first new more) c.replace-first.ensures.value
    c.in_ok-add_one.ensures)

pub returns-clause-gains : goal.returns-clause-gains
returns-clause-gains c =
    let inside = c.self.inside in
    let before = c.args.notes.now.changes in
    let after = c.add_one.new.notes.changes in
    let new = c.add_one.new.content in
    let more = load_built c.args.element in
    first_added before after c.args.self.now inside.first new inside.second inside.third
    inside.run c.args.element c.self.view_is c.self.invariant c.requires
    (subst (λ first. Collects before after first new more) c.replace-first.ensures.value
    c.in_ok-add_one.ensures)
