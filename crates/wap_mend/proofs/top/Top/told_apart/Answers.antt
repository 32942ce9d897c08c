-- The id goes where it is taken already.
use Rattle.std.proofs.Common.{◌≡◌, ap, ◌∙◌}
use Rattle.wap_mend.specs.inside.Tops.{Topped, own_id_of}
use Rattle.wap_mend.proofs.Topping.{none_more, no_own_id, ok_then}
use Rattle.wap_tokens.specs.declared.markup.name.AttrName.TheVariants as attrs
use Rattle.wap_mend.specs.inside.Frames.{rows_load}
use Rattle.wap_mend.proofs.Loads.{keeps_whole}
use Rattle.wap_mend.proofs.Dressing.{named_gone}
use Rattle.wap_mend.proofs.top.Top.told_apart.Goals as goal

pub returns-clause-taken : goal.returns-clause-taken
returns-clause-taken c =
    let new : Topped = record {
      head = c.self.inside.head;
      template = c.self.inside.template;
      cards = c.self.inside.cards;
      ids = c.take.new.self;
    } in
    let same : new ≡ c.args.self.now =
    ap (λ ids. record new { ids = ids }) (c.in_ok-take.ensures.same c.if-not-branch.false)
    ∙ c.self.view_is in
    ok_then c.copy_without.result _ _ c.copy_without.ensures
    (λ told is. none_more c.args.self.now new (own_id_of told) c.requires same
    (no_own_id told c.args.attributes is))

pub returns-clause-keeps : goal.returns-clause-keeps
returns-clause-keeps c =
    ok_then c.copy_without.result _ _ c.copy_without.ensures
    (λ told is. named_gone c.args.notes.now.changes c.note_lost.new.self.changes attrs.Id
    c.args.attributes told c.in_ok-lost.lost c.in_ok-lost.ensures is
    c.in_ok-note_lost.ensures.lost)

pub returns-in_default-clause-keeps : goal.returns-in_default-clause-keeps
returns-in_default-clause-keeps c =
    keeps_whole c.args.notes.now.changes (rows_load c.args.attributes.tag c.args.attributes.rows)

pub returns-then-not-branch-clause-keeps : goal.returns-then-not-branch-clause-keeps
returns-then-not-branch-clause-keeps c =
    keeps_whole c.args.notes.now.changes (rows_load c.args.attributes.tag c.args.attributes.rows)
