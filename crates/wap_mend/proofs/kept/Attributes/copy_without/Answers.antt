use Rattle.std.proofs.Common.{ap, sym, ◌∙◌, not}
use Rattle.wap_mend.specs.inside.Building.{Kept, is_named}
use Rattle.wap_mend.proofs.Suiting.{copied_other, copied_no_more, all_copied}
use Rattle.wap_mend.proofs.kept.Attributes.copy_without.Goals as goal
use Rattle.wap_mend.proofs.kept.Attributes.copy_without.Goals.{then-ne+in_ok-copied+in_ok-add}
use Rattle.wap_mend.proofs.kept.Attributes.copy_without.Goals.{else-ne}

pub loop-attribute-preserved : goal.loop-attribute-preserved
loop-attribute-preserved c = elim c.if-ne.branch [
  | then-ne+in_ok-copied+in_ok-add w ↦
      copied_other (λ row. not (is_named c.args.name row)) c.as_slice-attribute-items.result.now
      c.args.self.now.rows c.loop-attribute.attribute-index c.attribute-item.result
      (c.as_slice-attribute-items.ensures ∙ ap (λ (all : Kept). all.rows) c.self.view_is)
      c.loop-attribute-test.true c.attribute-item.is c.loop-attribute.rows c.if-ne.rows
      c.loop-attribute.invariant w.in_ok-copied.field-0 (sym c.ne.ensures ∙ w.if-ne.true)
      (w.in_ok-copied.ensures ∙ w.as_slice.ensures) (w.rows-is ∙ w.in_ok-add.ensures.ok)
  | else-ne w ↦
      copied_no_more (λ row. not (is_named c.args.name row)) c.as_slice-attribute-items.result.now
      c.args.self.now.rows c.loop-attribute.attribute-index c.attribute-item.result
      (c.as_slice-attribute-items.ensures ∙ ap (λ (all : Kept). all.rows) c.self.view_is)
      c.loop-attribute-test.true c.attribute-item.is c.loop-attribute.rows c.if-ne.rows
      c.loop-attribute.invariant (sym c.ne.ensures ∙ w.if-ne.false) w.rows-is
]

pub invariant_of-result : goal.invariant_of-result
invariant_of-result c =
    all_copied c.self.inside.tag c.args.self.now c.self.inside.rows
    c.as_slice-attribute-items.result.now c.loop-attribute.rows c.args.name
    c.loop-attribute.attribute-index c.self.view_is c.as_slice-attribute-items.ensures
    c.loop-attribute-test.false c.loop-attribute.invariant c.self.invariant
