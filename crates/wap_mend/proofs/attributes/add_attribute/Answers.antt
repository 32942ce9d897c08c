-- The attribute stands as it is, or in lower case, or goes.
use Rattle.std.proofs.Common.{[], ◌∷◌, ap, ◌∙◌}
use Rattle.std.proofs.lemmas.Result.{on_ok_weaker}
use Rattle.wap_mend.specs.inside.Building.{Kept}
use Rattle.wap_mend.specs.inside.Frames.{rows_load}
use Rattle.wap_mend.proofs.Accounted.{some_then}
use Rattle.wap_mend.proofs.Loads.{keeps_lost, noted_as}
use Rattle.wap_mend.proofs.Dressing.{row_stands, row_turns}
use Rattle.wap_mend.proofs.attributes.add_attribute.Goals as goal

pub returns-then-has-clause-keeps : goal.returns-then-has-clause-keeps
returns-then-has-clause-keeps c =
    let row = c.args.attribute.now in
    on_ok_weaker c.note_gone.result
    (λ noted.
    keeps_lost c.args.notes.now.changes c.note_gone.new.notes.changes
    (rows_load c.args.attributes.now.tag c.args.attributes.now.rows)
    (rows_load c.args.attributes.now.tag (row ∷ []))
    (noted_as c.args.notes.now.changes c.note_gone.new.notes.changes _ _
    (ap (λ tag. rows_load tag (row ∷ [])) c.tag-tag.ensures) noted)) c.note_gone.ensures

pub returns-in-None-clause-keeps : goal.returns-in-None-clause-keeps
returns-in-None-clause-keeps c =
    let row = c.args.attribute.now in
    on_ok_weaker c.note_gone-in-None.result
    (λ noted.
    keeps_lost c.args.notes.now.changes c.note_gone-in-None.new.notes.changes
    (rows_load c.args.attributes.now.tag c.args.attributes.now.rows)
    (rows_load c.args.attributes.now.tag (row ∷ []))
    (noted_as c.args.notes.now.changes c.note_gone-in-None.new.notes.changes _ _
    (ap (λ tag. rows_load tag (row ∷ [])) c.tag-tag.ensures) noted)) c.note_gone-in-None.ensures

pub returns-in-Some-clause-keeps : goal.returns-in-Some-clause-keeps
returns-in-Some-clause-keeps c =
    let row = c.args.attribute.now in
    on_ok_weaker c.add.result
    (λ added.
    row_stands c.args.notes.now.changes c.args.attributes.now.tag c.args.attributes.now.rows
    c.add.new.self.rows row c.in-Some.as_it_is
    (some_then _ c.in_ok-as_it_is.field-0 c.in-Some.as_it_is c.in-Some.is
    c.in_ok-as_it_is.ensures.same
    ∙ ap (λ value. (row.0, value)) (c.in_ok-copied.ensures ∙ c.as_slice-parts.ensures))
    (ap (λ (kept : Kept). kept.rows) added)) c.add.ensures

pub returns-in_ok-note_turned-in-Some-2-clause-keeps :
    goal.returns-in_ok-note_turned-in-Some-2-clause-keeps
returns-in_ok-note_turned-in-Some-2-clause-keeps c =
    let row = c.args.attribute.now in
    let lower = c.in-Some-2.lower in
    on_ok_weaker c.add-in-Some-2.result
    (λ added.
    row_turns c.args.notes.now.changes c.note_turned.new.self.changes c.args.attributes.now.tag
    c.args.attributes.now.rows c.add-in-Some-2.new.self.rows row lower
    c.in_ok-lost-in-Some-2.lost c.in_ok-came-in-Some-2.came
    (c.in_ok-lost-in-Some-2.ensures ∙ ap (λ tag. rows_load tag (row ∷ [])) c.tag-tag.ensures)
    (c.in_ok-came-in-Some-2.ensures ∙ ap (λ tag. (tag, lower.0, lower.1) ∷ []) c.tag-tag.ensures)
    (ap (λ (kept : Kept). kept.rows) added)
    c.in_ok-note_turned-in-Some-2.ensures.turned) c.add-in-Some-2.ensures
