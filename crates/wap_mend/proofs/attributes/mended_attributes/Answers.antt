-- With each attribute one more is kept, or noted.
use Rattle.std.proofs.Common.{[], ◌∷◌, List, ap, sym, subst, ◌∙◌}
use Rattle.wap_base.specs.declared.name.Part.{Part}
use Rattle.wap_tokens.specs.declared.markup.name.AttrName.{AttrName}
use Rattle.wap_mend.specs.inside.Building.{Kept}
use Rattle.wap_mend.specs.inside.Frames.{nothing, rows_load, Keeps}
use Rattle.wap_mend.proofs.Suiting.{each_is}
use Rattle.wap_mend.proofs.Loads.{keeps_whole}
use Rattle.wap_mend.proofs.Dressing.{rows_turn}
use Rattle.wap_mend.proofs.attributes.mended_attributes.Goals as goal

pub add_attribute-requires : goal.add_attribute-requires
add_attribute-requires c =
    each_is c.args.node.now.attrs c.as_slice-attribute-items.result.now
    c.loop-attribute.attribute-index c.attribute-item.result c.requires
    c.as_slice-attribute-items.ensures c.loop-attribute-test.true c.attribute-item.is

pub loop-attribute-init : goal.loop-attribute-init
loop-attribute-init c =
    let changes = c.args.notes.now.changes in
    record {
      tag = ap (λ (kept : Kept). kept.tag) c.new-attributes.ensures;
      keeps =
          subst (λ (rows : List (AttrName × List Part)). Keeps changes changes nothing
          (rows_load c.args.tag rows) (rows_load c.args.tag []))
          (sym (ap (λ (kept : Kept). kept.rows) c.new-attributes.ensures))
          (keeps_whole changes nothing);
    }

pub loop-attribute-preserved : goal.loop-attribute-preserved
loop-attribute-preserved c =
    let between = c.loop-attribute.notes.changes in
    let after = c.add_attribute.new.notes.changes in
    let tag = c.args.tag in
    let rows = c.loop-attribute.attributes.rows in
    let row = c.attribute-item.result in
    record {
      tag = c.in_ok-add_attribute.ensures.tag ∙ c.loop-attribute.invariant.tag;
      keeps =
          rows_turn c.args.notes.now.changes between after tag rows
          c.add_attribute.new.attributes.rows c.args.node.now.attrs
          c.as_slice-attribute-items.result.now c.loop-attribute.attribute-index row
          c.as_slice-attribute-items.ensures c.loop-attribute-test.true c.attribute-item.is
          c.loop-attribute.invariant.keeps
          (subst (λ t. Keeps between after (rows_load t rows)
          (rows_load t c.add_attribute.new.attributes.rows) (rows_load t (row ∷ [])))
          c.loop-attribute.invariant.tag c.in_ok-add_attribute.ensures.keeps);
    }
