-- What was in the paragraph stands among the others, or is noted as lost.
use Rattle.std.proofs.Common.{◌≡◌, suc, ap, sym, subst, ◌∙◌, add-one}
use Rattle.std.proofs.lemmas.Result.{on_ok_weaker}
use Rattle.wap_tokens.specs.markup.Good.{rule_of}
use Rattle.wap_tokens.specs.declared.markup.deck.Node.{Node}
use Rattle.wap_tokens.specs.declared.markup.name.Tag.TheVariants as tags
use Rattle.wap_mend.specs.inside.Building.{Filled}
use Rattle.wap_mend.specs.inside.Frames.{nothing, load_built, given_node, load_lost, framed}
use Rattle.wap_mend.specs.inside.Frames.{Gains, IsSame}
use Rattle.wap_mend.proofs.Framing.{paragraph_ruled, run_ended, run_lost}
use Rattle.wap_mend.proofs.frame.Frame.put_run.Goals as goal

pub of-requires-clause-ruled : goal.of-requires-clause-ruled
of-requires-clause-ruled c =
    ap (λ (f : Filled). f.rule) c.replace-content.ensures.value ∙ c.self.invariant.paragraph
    ∙ paragraph_ruled c.in_ok-attributes.attributes.tag c.in_ok-attributes.ensures

pub returns-in-Ok-clause-gains : goal.returns-in-Ok-clause-gains
returns-in-Ok-clause-gains c =
    let inside = c.self.inside in
    let before = c.args.notes.now.changes in
    let after = c.add_in_order.new.notes.changes in
    let new = c.add_in_order.new.self in
    let attributes = c.in_ok-attributes.attributes in
    let element = c.in-Ok.element in
    let made = λ (run : Filled).
    element ≡ record {
      levels = suc run.room;
      node = record { tag = attributes.tag; attrs = attributes.rows; kids = run.items };
    } in
    on_ok_weaker c.add_in_order.result
    (λ gains.
    run_ended before after c.args.self.now new inside.first inside.second inside.third inside.run
    (rule_of tags.P) c.room-room.result attributes element c.self.view_is
    c.in_ok-attributes.ensures
    (subst made c.replace-content.ensures.value c.in-Ok.ensures.made)
    (subst (λ run. Gains before after (framed inside.first inside.second inside.third run) new
    (load_built element)) (c.replace-content.ensures.after ∙ c.new.ensures) gains))
    c.add_in_order.ensures.gains

pub returns-in_ok-lost-in-Err-clause-gains : goal.returns-in_ok-lost-in-Err-clause-gains
returns-in_ok-lost-in-Err-clause-gains c =
    let inside = c.self.inside in
    let before = c.args.notes.now.changes in
    let after = c.note_lost.new.self.changes in
    let room = c.room-room.result in
    let attributes = c.in_ok-attributes.attributes in
    let made : Filled → Node = λ run.
    record { tag = attributes.tag; attrs = attributes.rows; kids = run.items } in
    let all =
    subst (IsSame (load_lost c.in_ok-lost-in-Err.lost))
    (ap (λ levels. given_node levels c.in-Err.node) (add-one room)
    ∙ ap (given_node (suc room)) (c.in-Err.ensures.back ∙ ap made c.replace-content.ensures.value)
    ∙ ap (λ levels. given_node (suc levels) (made inside.run)) c.room-room.ensures.room)
    c.in_ok-lost-in-Err.ensures in
    on_ok_weaker c.note_lost.result
    (λ noted.
    subst (λ run. Gains before after c.args.self.now
    (framed inside.first inside.second inside.third run) nothing)
    (sym (c.replace-content.ensures.after ∙ c.new.ensures))
    (run_lost before after c.args.self.now inside.first inside.second inside.third inside.run
    (rule_of tags.P) room attributes c.in_ok-lost-in-Err.lost c.self.view_is
    c.in_ok-attributes.ensures all noted))
    c.note_lost.ensures.lost
