-- What is given is put, or noted as lost.
use Rattle.std.proofs.Common.{◌≡◌, ◌+◌, ◌-◌, suc, List, [], sym, ap, subst, ◌∙◌, Option, arith}
use Rattle.std.specs.Prelude.{MatchOption, IfSome}
use Rattle.std.specs.Option.{option_to_list}
use Rattle.std.specs.List.{AllByRecursion}
use Rattle.std.proofs.lemmas.Result.{on_ok_weaker, IfOk-weaker}
use Rattle.wap_tokens.specs.declared.markup.deck.Item.{Item}
use Rattle.wap_tokens.specs.declared.markup.deck.Item.{out-Item}
use Rattle.wap_tokens.specs.markup.Normal.{IsNode, IsItem}
use Rattle.wap_tokens.specs.markup.Good.{rule_of}
use Rattle.wap_mend.specs.inside.Building.{Built, Kept}
use Rattle.wap_mend.specs.inside.Names.{own_name_of, Takes}
use Rattle.wap_mend.specs.inside.Frames.{nothing, load_if, given_items, given_node}
use Rattle.wap_mend.specs.inside.Frames.{Moves, Framed, Keeps, rows_load, rows_if}
use Rattle.wap_mend.proofs.Loads.{still_refl, noted_same}
use Rattle.wap_mend.proofs.Framing.{node_levels, node_kids}
use Rattle.wap_mend.proofs.Putting.{puts_nothing, puts_lost, puts_turn, puts_opened}
use Rattle.wap_mend.proofs.Putting.{puts_paragraph, puts_element, puts_none}
use Rattle.wap_mend.proofs.Putting.{moves_lost, made_keeps, made_apart, unmade_keeps}
use Rattle.wap_mend.proofs.Putting.{card_whole, made_named, put_kids, keeps_told}
use Rattle.wap_mend.proofs.elements.+walk.Goals as goal

pub put_items-loop-number-init : goal.put_items-loop-number-init
put_items-loop-number-init t c =
    puts_nothing c.args.names.now c.args.notes.now.changes c.args.notes.now.changes
    c.args.frame.now (still_refl c.args.notes.now.changes)

pub put_items-loop-number-preserved : goal.put_items-loop-number-preserved
put_items-loop-number-preserved t c =
    puts_turn c.args.items.now c.loop-number.number c.index-items-number.result
    c.loop-number-test.true c.index-items-number.is c.args.names.now c.loop-number.names
    c.put_item.new.names c.args.notes.now.changes c.loop-number.notes.changes
    c.loop-number.notes.changes c.put_item.new.notes.changes c.args.frame.now
    c.loop-number.frame c.put_item.new.frame c.args.levels c.loop-number.invariant
    (still_refl c.loop-number.notes.changes) c.in_ok-put_item.ensures

pub put_node-returns-in_ok-note_opened-in-Nowhere :
    goal.put_node-returns-in_ok-note_opened-in-Nowhere
put_node-returns-in_ok-note_opened-in-Nowhere t c =
    on_ok_weaker c.put_items.result
    (puts_opened c.args.names.now c.put_items.new.names c.args.notes.now.changes
    c.note_opened.new.self.changes c.put_items.new.notes.changes c.args.frame.now
    c.put_items.new.frame c.args.levels c.as_slice-kids.result.now c.args.node.now c.requires
    c.as_slice-kids.ensures c.in_ok-note_opened-in-Nowhere.ensures.lost) c.put_items.ensures

pub put_paragraph-returns : goal.put_paragraph-returns
put_paragraph-returns t c =
    on_ok_weaker c.leave.result
    (puts_paragraph c.args.names.now c.put_items.new.names c.args.notes.now.changes
    c.mended_attributes.new.notes.changes c.enter.new.notes.changes
    c.put_items.new.notes.changes c.leave.new.notes.changes c.args.frame.now
    c.enter.new.self c.put_items.new.frame c.leave.new.self c.args.levels
    c.as_slice-kids.result.now c.args.node.now c.in_ok-attributes.attributes.rows
    c.requires.normal c.requires.paragraph c.as_slice-kids.ensures c.in_ok-attributes.ensures.keeps
    c.in_ok-outer.ensures c.in_ok-put_items.ensures)
    c.leave.ensures

pub put_element-returns-then-not-branch : goal.put_element-returns-then-not-branch
put_element-returns-then-not-branch t c =
    on_ok_weaker c.put_items.result
    (puts_opened c.args.names.now c.put_items.new.names c.args.notes.now.changes
    c.note_opened.new.self.changes c.put_items.new.notes.changes c.args.frame.now
    c.put_items.new.frame c.args.levels c.as_slice-kids.result.now c.args.node.now
    c.requires.normal c.as_slice-kids.ensures c.in_ok-note_opened.ensures.lost) c.put_items.ensures

pub put_element-returns-then-is_second : goal.put_element-returns-then-is_second
put_element-returns-then-is_second t c =
    on_ok_weaker c.note_lost.result
    (λ noted.
    puts_lost c.args.names.now c.args.notes.now.changes c.note_lost.new.self.changes
    c.args.frame.now (given_node c.args.levels c.args.node.now)
    (noted_same c.args.notes.now.changes c.note_lost.new.self.changes _ _ c.in_ok-of_node.ensures
    noted)) c.note_lost.ensures.lost

pub put_element-returns-then-room-eq0 : goal.put_element-returns-then-room-eq0
put_element-returns-then-room-eq0 t c =
    on_ok_weaker c.put_items-then-room-eq0.result
    (puts_opened c.args.names.now c.put_items-then-room-eq0.new.names
    c.args.notes.now.changes c.note_opened-then-room-eq0.new.self.changes
    c.put_items-then-room-eq0.new.notes.changes c.args.frame.now
    c.put_items-then-room-eq0.new.frame c.args.levels c.as_slice-kids.result.now
    c.args.node.now c.requires.normal c.as_slice-kids.ensures c.in_ok-note_opened-2.ensures.lost)
    c.put_items-then-room-eq0.ensures

pub put_element-returns-in-Some : goal.put_element-returns-in-Some
put_element-returns-in-Some t c =
    on_ok_weaker c.add.result
    (puts_element c.args.names.now c.made_with_name.new.names c.args.notes.now.changes
    c.prepare.new.notes.changes c.made_with_name.new.notes.changes c.add.new.notes.changes
    c.args.frame.now c.prepare.new.self c.add.new.self c.in-Some.element
    (given_node c.args.levels c.args.node.now) c.in_ok-prepare.ensures
    (subst (λ (made : Option Built). Moves c.args.names.now c.made_with_name.new.names
    c.prepare.new.notes.changes c.made_with_name.new.notes.changes nothing (load_if made)
    (given_node c.args.levels c.args.node.now)) c.in-Some.is c.in_ok-element.ensures))
    c.add.ensures

pub put_element-returns-in-None : goal.put_element-returns-in-None
put_element-returns-in-None t c =
    puts_none c.args.names.now c.made_with_name.new.names c.args.notes.now.changes
    c.prepare.new.notes.changes c.made_with_name.new.notes.changes c.args.frame.now
    c.prepare.new.self (given_node c.args.levels c.args.node.now) c.in_ok-prepare.ensures
    (subst (λ (made : Option Built). Moves c.args.names.now c.made_with_name.new.names
    c.prepare.new.notes.changes c.made_with_name.new.notes.changes nothing (load_if made)
    (given_node c.args.levels c.args.node.now)) c.in-None.is c.in_ok-element.ensures)

pub made_with_name-returns-in_ok-note_lost-in-None :
    goal.made_with_name-returns-in_ok-note_lost-in-None
made_with_name-returns-in_ok-note_lost-in-None t c =
    moves_lost c.args.names.now c.told_apart.new.names c.args.notes.now.changes
    c.mended_attributes.new.notes.changes c.told_apart.new.notes.changes
    c.note_lost.new.self.changes c.args.node.now c.args.levels c.in_ok-attributes.attributes
    c.in_ok-lost-in-None.lost c.in_ok-attributes.ensures.keeps c.in_ok-attributes.ensures.tag
    (subst (λ named. Keeps c.mended_attributes.new.notes.changes c.told_apart.new.notes.changes
    nothing (rows_if named)
    (rows_load c.in_ok-attributes.attributes.tag c.in_ok-attributes.attributes.rows))
    c.in-None.is c.in_ok-attributes-2.ensures.keeps)
    (subst (λ named. MatchOption named (Takes c.args.names.now c.told_apart.new.names [] [])
    (λ (kept : Kept). Takes c.args.names.now c.told_apart.new.names []
    (option_to_list (own_name_of kept)))) c.in-None.is c.in_ok-attributes-2.ensures.taken)
    c.in_ok-lost-in-None.ensures c.in_ok-note_lost-in-None.ensures.lost

pub made-put_items-requires : goal.made-put_items-requires
made-put_items-requires t c =
    let some = node_levels c.args.levels c.args.node.now c.requires.normal in (
      grind (arith, some),
      subst (λ (kids : List Item).
          AllByRecursion (λ item. IsItem (IsNode (c.args.levels - 1)) (out-Item item)) kids)
          (sym c.as_slice-kids.ensures) (node_kids c.args.levels c.args.node.now c.requires.normal),
    )

pub made_with_name-returns-in-Some : goal.made_with_name-returns-in-Some
made_with_name-returns-in-Some t c =
    let before = c.args.notes.now.changes in
    let one = c.mended_attributes.new.notes.changes in
    let two = c.told_apart.new.notes.changes in
    let after = c.made.new.notes.changes in
    let mended = c.in_ok-attributes.attributes in
    let told = c.in-Some.attributes in
    made_named c.args.names.now c.told_apart.new.names c.made.new.names before after told
    (suc c.args.room) (given_node c.args.levels c.args.node.now) c.made.result
    (subst (λ named. MatchOption named (Takes c.args.names.now c.told_apart.new.names [] [])
    (λ (kept : Kept). Takes c.args.names.now c.told_apart.new.names []
    (option_to_list (own_name_of kept)))) c.in-Some.is c.in_ok-attributes-2.ensures.taken)
    c.made.ensures.same c.made.ensures.taken
    (IfOk-weaker c.made.result _ _
    (λ made. keeps_told before one two after c.args.node.now c.args.levels mended told
    (load_if made) c.in_ok-attributes.ensures.keeps c.in_ok-attributes.ensures.tag
    (subst (λ named. Keeps one two nothing (rows_if named) (rows_load mended.tag mended.rows))
    c.in-Some.is c.in_ok-attributes-2.ensures.keeps)
    (subst (λ named. IfSome named (λ (kept : Kept). kept.tag ≡ mended.tag)) c.in-Some.is
    c.in_ok-attributes-2.ensures.tag)) c.made.ensures.keeps)

pub made-of-requires-clause-apart : goal.made-of-requires-clause-apart
made-of-requires-clause-apart t c holds =
    made_apart c.args.names.now c.put_items.new.names c.args.notes.now.changes
    c.put_items.new.notes.changes c.close.new.notes.changes _ _ c.put_items.new.frame
    c.in_ok-content.content (given_items (c.args.levels - 1) c.args.node.now.kids)
    (c.requires.apart holds)
    (put_kids c.args.names.now c.put_items.new.names c.args.notes.now.changes
    c.put_items.new.notes.changes _ _ (c.args.levels - 1) c.new-frame.result
    c.put_items.new.frame c.as_slice-kids.result.now c.args.node.now c.new-frame.ensures
    c.as_slice-kids.ensures c.in_ok-put_items.ensures) c.in_ok-content.ensures

pub made-returns-in-Ok-clause-keeps : goal.made-returns-in-Ok-clause-keeps
made-returns-in-Ok-clause-keeps t c =
    made_keeps c.args.names.now c.put_items.new.names c.args.notes.now.changes
    c.put_items.new.notes.changes c.close.new.notes.changes _ _ c.put_items.new.frame
    c.in_ok-content.content c.args.attributes c.in-Ok.element c.args.levels c.args.node.now
    (node_levels c.args.levels c.args.node.now c.requires.normal)
    (put_kids c.args.names.now c.put_items.new.names c.args.notes.now.changes
    c.put_items.new.notes.changes _ _ (c.args.levels - 1) c.new-frame.result
    c.put_items.new.frame c.as_slice-kids.result.now c.args.node.now c.new-frame.ensures
    c.as_slice-kids.ensures c.in_ok-put_items.ensures) c.in_ok-content.ensures c.requires.tag
    c.in-Ok.ensures.made

pub made-returns-in_ok-note_lost-in-Err-clause-keeps :
    goal.made-returns-in_ok-note_lost-in-Err-clause-keeps
made-returns-in_ok-note_lost-in-Err-clause-keeps t c =
    unmade_keeps c.args.names.now c.put_items.new.names c.args.notes.now.changes
    c.put_items.new.notes.changes c.close.new.notes.changes c.note_lost.new.self.changes _ _
    c.put_items.new.frame c.in_ok-content.content c.args.attributes c.in-Err.node
    c.in_ok-lost-in-Err.lost (c.args.room + 1) c.args.levels c.args.node.now
    (node_levels c.args.levels c.args.node.now c.requires.normal)
    (let same =
    c.in_ok-content.ensures.room ∙ c.in_ok-put_items.ensures.room
    ∙ ap (λ (f : Framed). f.room) c.new-frame.ensures in grind (arith, same))
    (put_kids c.args.names.now c.put_items.new.names c.args.notes.now.changes
    c.put_items.new.notes.changes _ _ (c.args.levels - 1) c.new-frame.result
    c.put_items.new.frame c.as_slice-kids.result.now c.args.node.now c.new-frame.ensures
    c.as_slice-kids.ensures c.in_ok-put_items.ensures) c.in_ok-content.ensures c.requires.tag
    c.in-Err.ensures.back c.in_ok-lost-in-Err.ensures c.in_ok-note_lost-in-Err.ensures.lost

pub made-returns-in_ok-note_lost-in-Err-clause-card :
    goal.made-returns-in_ok-note_lost-in-Err-clause-card
made-returns-in_ok-note_lost-in-Err-clause-card t c card =
    let attributes = c.args.attributes in
    c.in-Err.ensures.whole ∙ card_whole c.in_ok-content.content.rule
    (record {
      tag = attributes.tag;
      attrs = attributes.rows;
      kids = c.in_ok-content.content.items;
    })
    (c.in_ok-content.ensures.rule ∙ c.in_ok-put_items.ensures.rule
    ∙ ap (λ (f : Framed). f.rule) c.new-frame.ensures ∙ ap rule_of (c.tag.ensures ∙ card))
