-- With each item one more is put there, or noted as lost.
use Rattle.std.proofs.Common.{sym, ap, subst, ◌∙◌}
use Rattle.std.proofs.lemmas.Result.{on_ok_weaker}
use Rattle.wap_tokens.specs.declared.markup.deck.Item.TheVariants as item
use Rattle.wap_mend.specs.inside.Frames.{nothing, load_if, load_built, given_node, text_load, Keeps}
use Rattle.wap_mend.specs.inside.Tops.{load_top}
use Rattle.wap_mend.proofs.Topping.{item_gathered, nothing_gathered, made_id}
use Rattle.wap_mend.proofs.Loads.{keeps_still, keeps_lost, still_refl, noted_same}
use Rattle.wap_mend.proofs.Accounted.{turn_keeps, blank_keeps, text_keeps, node_keeps, opened_keeps}
use Rattle.wap_mend.proofs.Accounted.{some_then, element_keeps, none_keeps}
use Rattle.wap_mend.proofs.Putting.{keeps_told}
use Rattle.wap_mend.proofs.root.+root.Goals as goal

pub put_items-loop-number-init : goal.put_items-loop-number-init
put_items-loop-number-init t c = (
  nothing_gathered c.args.top.now c.requires.taken,
  keeps_still c.args.notes.now.changes c.args.notes.now.changes (load_top c.args.top.now)
      (still_refl c.args.notes.now.changes),
)

pub put_items-loop-number-preserved : goal.put_items-loop-number-preserved
put_items-loop-number-preserved t c = (
  item_gathered c.args.top.now c.loop-number.top c.put_item.new.top c.args.items.now
      c.loop-number.number c.index-items-number.result c.loop-number-test.true
      c.index-items-number.is c.loop-number.invariant.0 c.in_ok-put_item.ensures.gathers,
  turn_keeps c.args.notes.now.changes c.loop-number.notes.changes c.put_item.new.notes.changes
      (load_top c.args.top.now) (load_top c.loop-number.top) (load_top c.put_item.new.top)
      c.args.levels c.args.items.now c.loop-number.number c.index-items-number.result
      c.loop-number-test.true c.index-items-number.is c.loop-number.invariant.1
      c.in_ok-put_item.ensures.keeps,
)

pub put_item-returns-in-Text-clause-keeps : goal.put_item-returns-in-Text-clause-keeps
put_item-returns-in-Text-clause-keeps t c =
    blank_keeps c.args.notes.now.changes c.args.notes.now.changes c.args.levels c.args.item.now
    (load_top c.args.top.now) c.as_slice.result.now
    (c.in-Text.is ∙ ap item.Text (sym c.as_slice.ensures)) (sym c.if-is_blank_text.ensures)
    (still_refl c.args.notes.now.changes)

pub put_item-returns-in_ok-of_text-in-Text-2-clause-keeps :
    goal.put_item-returns-in_ok-of_text-in-Text-2-clause-keeps
put_item-returns-in_ok-of_text-in-Text-2-clause-keeps t c =
    on_ok_weaker c.note_lost.result
    (text_keeps c.args.notes.now.changes c.note_lost.new.self.changes c.args.levels
    c.args.item.now (load_top c.args.top.now) c.in-Text-2.parts c.in_ok-of_text-in-Text-2.field-0
    c.in-Text-2.is
    (c.in_ok-of_text-in-Text-2.ensures ∙ ap text_load c.as_slice-in-Text-2.ensures))
    c.note_lost.ensures.lost

pub put_item-returns-in-Node-clause-keeps : goal.put_item-returns-in-Node-clause-keeps
put_item-returns-in-Node-clause-keeps t c =
    on_ok_weaker c.put_node.result
    (node_keeps c.args.notes.now.changes c.put_node.new.notes.changes c.args.levels
    c.args.item.now (load_top c.args.top.now) (load_top c.put_node.new.top) c.in-Node.node
    c.in-Node.is) c.put_node.ensures.keeps

pub put_node-returns-in_ok-note_opened-in_default-clause-keeps :
    goal.put_node-returns-in_ok-note_opened-in_default-clause-keeps
put_node-returns-in_ok-note_opened-in_default-clause-keeps t c =
    on_ok_weaker c.put_items.result
    (opened_keeps c.args.notes.now.changes c.note_opened.new.self.changes
    c.put_items.new.notes.changes
    (load_top c.args.top.now) (load_top c.put_items.new.top) c.args.levels c.args.node.now
    c.as_slice.result.now c.requires.normal c.in_ok-note_opened-in_default.ensures.lost
    c.as_slice.ensures) c.put_items.ensures.keeps

pub put_element-returns-then-not-branch-clause-keeps :
    goal.put_element-returns-then-not-branch-clause-keeps
put_element-returns-then-not-branch-clause-keeps t c =
    on_ok_weaker c.put_items.result
    (opened_keeps c.args.notes.now.changes c.note_opened.new.self.changes
    c.put_items.new.notes.changes
    (load_top c.args.top.now) (load_top c.put_items.new.top) c.args.levels c.args.node.now
    c.as_slice.result.now c.requires.normal c.in_ok-note_opened.ensures.lost c.as_slice.ensures)
    c.put_items.ensures.keeps

pub put_element-returns-then-is_second-clause-keeps :
    goal.put_element-returns-then-is_second-clause-keeps
put_element-returns-then-is_second-clause-keeps t c =
    on_ok_weaker c.note_lost.result
    (λ noted.
    keeps_lost c.args.notes.now.changes c.note_lost.new.self.changes (load_top c.args.top.now)
    (given_node c.args.levels c.args.node.now)
    (noted_same c.args.notes.now.changes c.note_lost.new.self.changes _ _ c.in_ok-of_node.ensures
    noted)) c.note_lost.ensures.lost

pub put_element-add-requires-clause-taken : goal.put_element-add-requires-clause-taken
put_element-add-requires-clause-taken t c =
    let same =
    some_then _ c.in_ok-element.field-0 c.in-Some.element c.in-Some.is
    c.in_ok-element.ensures.same in
    made_id c.told_apart.new.self c.in_ok-attributes-2.attributes c.in-Some.element.node same.1
    same.2 c.in_ok-attributes-2.ensures.taken

pub put_element-returns-in-Some-clause-keeps : goal.put_element-returns-in-Some-clause-keeps
put_element-returns-in-Some-clause-keeps t c =
    let before = c.args.notes.now.changes in
    let told = c.told_apart.new.notes.changes in
    let between = c.made.new.notes.changes in
    let node = c.args.node.now in
    let attributes = c.in_ok-attributes-2.attributes in
    on_ok_weaker c.add.result
    (element_keeps before (load_top c.args.top.now) (load_top c.told_apart.new.self)
    (given_node c.args.levels node) c.in_ok-attributes-2.ensures.same between
    c.add.new.notes.changes (load_top c.add.new.self) (load_built c.in-Some.element)
    (keeps_told before c.mended_attributes.new.notes.changes told between node c.args.levels
    c.in_ok-attributes.attributes attributes (load_built c.in-Some.element)
    c.in_ok-attributes.ensures.keeps c.in_ok-attributes.ensures.tag
    c.in_ok-attributes-2.ensures.keeps c.in_ok-attributes-2.ensures.tag
    (subst (λ found. Keeps told between nothing (load_if found)
    (given_node c.args.levels (record node { attrs = attributes.rows }))) c.in-Some.is
    c.in_ok-element.ensures.keeps))) c.add.ensures.keeps

pub put_element-returns-clause-keeps : goal.put_element-returns-clause-keeps
put_element-returns-clause-keeps t c =
    let before = c.args.notes.now.changes in
    let told = c.told_apart.new.notes.changes in
    let after = c.made.new.notes.changes in
    let node = c.args.node.now in
    let attributes = c.in_ok-attributes-2.attributes in
    none_keeps before (load_top c.args.top.now) (load_top c.told_apart.new.self)
    (given_node c.args.levels node) c.in_ok-attributes-2.ensures.same after
    (keeps_told before c.mended_attributes.new.notes.changes told after node c.args.levels
    c.in_ok-attributes.attributes attributes nothing c.in_ok-attributes.ensures.keeps
    c.in_ok-attributes.ensures.tag c.in_ok-attributes-2.ensures.keeps
    c.in_ok-attributes-2.ensures.tag
    (subst (λ found. Keeps told after nothing (load_if found)
    (given_node c.args.levels (record node { attrs = attributes.rows }))) c.in-None.is
    c.in_ok-element.ensures.keeps))
