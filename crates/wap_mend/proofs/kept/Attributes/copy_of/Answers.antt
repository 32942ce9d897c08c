use Rattle.std.proofs.Common.{ap, sym, ◌∙◌}
use Rattle.wap_mend.specs.inside.Building.{Kept, is_named}
use Rattle.wap_mend.proofs.Suiting.{copied_other, copied_no_more}
use Rattle.wap_mend.proofs.kept.Attributes.copy_of.Goals as goal
use Rattle.wap_mend.proofs.kept.Attributes.copy_of.Goals.{then-eq+in_ok-copied+in_ok-add}
use Rattle.wap_mend.proofs.kept.Attributes.copy_of.Goals.{else-eq}

pub loop-attribute-preserved : goal.loop-attribute-preserved
loop-attribute-preserved c = elim c.if-eq.branch [
  | then-eq+in_ok-copied+in_ok-add w ↦
      copied_other (is_named c.args.name) c.as_slice-attribute-items.result.now
      c.args.self.now.rows c.loop-attribute.attribute-index c.attribute-item.result
      (c.as_slice-attribute-items.ensures ∙ ap (λ (all : Kept). all.rows) c.self.view_is)
      c.loop-attribute-test.true c.attribute-item.is c.loop-attribute.rows c.if-eq.rows
      c.loop-attribute.invariant w.in_ok-copied.field-0 (sym c.eq.ensures ∙ w.if-eq.true)
      (w.in_ok-copied.ensures ∙ w.as_slice.ensures) (w.rows-is ∙ w.in_ok-add.ensures.ok)
  | else-eq w ↦
      copied_no_more (is_named c.args.name) c.as_slice-attribute-items.result.now
      c.args.self.now.rows c.loop-attribute.attribute-index c.attribute-item.result
      (c.as_slice-attribute-items.ensures ∙ ap (λ (all : Kept). all.rows) c.self.view_is)
      c.loop-attribute-test.true c.attribute-item.is c.loop-attribute.rows c.if-eq.rows
      c.loop-attribute.invariant (sym c.eq.ensures ∙ w.if-eq.false) w.rows-is
]
