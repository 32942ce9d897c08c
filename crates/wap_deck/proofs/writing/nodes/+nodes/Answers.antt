use Rattle.std.proofs.Common.{List, ◌≡◌, ◌+◌, ◌<◌, ◌∷◌, [], Bool, true, false, map}
use Rattle.std.proofs.Common.{ℕ, ap, ap₂, subst, ◌∙◌, sym, arith, rules}
use Rattle.std.specs.List.{AllByRecursion}
use Rattle.std.proofs.lemmas.List.{take_all}
use Rattle.wap_base.specs.declared.name.Part.{Part}
use Rattle.wap_tokens.specs.declared.markup.name.AttrName.{AttrName}
use Rattle.wap_tokens.specs.declared.markup.deck.Item.{Item}
use Rattle.wap_tokens.specs.markup.Writing.{attr_of, item_kids, items_kids, node_kids}
use Rattle.wap_wbxml.specs.spelling.Characters.{OfPart, OfAttr, OfOpened, OfNode}
use Rattle.wap_wbxml.specs.spelling.Writings.{plain, each, ended}
use Rattle.wap_wbxml.specs.spelling.Spelling.{bit, attr_spelling, kid_spelling, element_spelling}
use Rattle.wap_wbxml.specs.spelling.Written.{written}
use Rattle.wap_wbxml.proofs.SpellingLemmas.Appending.{each_none, each_step}
use Rattle.wap_deck.specs.writing.inside.WrittenTexts.{part_spelling, content_bit, has_any}
use Rattle.wap_deck.proofs.WritingLemmas.Content.{code_small, bit_within, content_within, bits_are}
use Rattle.wap_deck.proofs.WritingLemmas.Content.{text_written, none_written, node_written}
use Rattle.wap_deck.proofs.WritingLemmas.Content.{items_written}
use Rattle.wap_deck.proofs.WritingLemmas.Content.{end_none, end_some, element_written}
use Rattle.wap_deck.proofs.WritingLemmas.Told.{told_more, told_all, text_told, node_told, none_of}
use Rattle.wap_deck.proofs.WritingLemmas.Told.{level_of}
use Rattle.wap_deck.proofs.writing.nodes.+nodes.Goals as goal

pub write_content-returns-then-not-give_content-clause-written :
    goal.write_content-returns-then-not-give_content-clause-written
write_content-returns-then-not-give_content-clause-written t c =
    let names = c.args.table.now in
    let spell = kid_spelling names (element_spelling names c.args.levels) in
    let kids = items_kids (node_kids c.args.levels) c.args.items.now in
    let none : false ≡ has_any kids =
    (let is = c.if-not-give_content.true in let gives = c.give_content.ensures in cc) in
    end_none names spell kids none c.args.output.now c.write_items.new.output
    c.in_ok-write_items.ensures.written

pub write_content-returns-clause-written : goal.write_content-returns-clause-written
write_content-returns-clause-written t c =
    let names = c.args.table.now in
    let spell = kid_spelling names (element_spelling names c.args.levels) in
    let kids = items_kids (node_kids c.args.levels) c.args.items.now in
    let more : true ≡ has_any kids =
    (let is = c.if-not-give_content.false in let gives = c.give_content.ensures in cc) in
    end_some names spell kids more c.args.output.now c.write_items.new.output c.push.new.self
    c.in_ok-write_items.ensures.written
    c.in_ok-push.ensures.ok

pub write_item-returns-then-levels-eq0-clause-written :
    goal.write_item-returns-then-levels-eq0-clause-written
write_item-returns-then-levels-eq0-clause-written t c =
    let none : c.args.levels ≡ 0 = (let is = c.if-levels-eq0.true in omega arith) in
    none_written c.args.table.now c.args.levels c.args.item.now c.in-Node.node c.in-Node.is none
    c.args.output.now

pub write_item-returns-in_ok-write_parts-in-Text-clause-written :
    goal.write_item-returns-in_ok-write_parts-in-Text-clause-written
write_item-returns-in_ok-write_parts-in-Text-clause-written t c =
    text_written c.args.table.now c.args.levels c.args.item.now c.in-Text.parts c.in-Text.is
    c.args.output.now c.write_parts.new.output
    (c.in_ok-write_parts-in-Text.ensures.written
    ∙ ap (λ (parts : List Part). written (each part_spelling parts) c.args.output.now)
    c.as_slice.ensures)

pub write_item-returns-in_ok-write_node-in-Node-clause-written :
    goal.write_item-returns-in_ok-write_node-in-Node-clause-written
write_item-returns-in_ok-write_node-in-Node-clause-written t c =
    let few : 0 < c.args.levels = (let some = c.if-levels-eq0.false in omega arith) in
    node_written c.args.table.now c.args.levels c.args.item.now c.in-Node.node c.in-Node.is few
    c.args.output.now c.write_node.new.output
    c.in_ok-write_node-in-Node.ensures.written

pub write_items-loop-item-init : goal.write_items-loop-item-init
write_items-loop-item-init t c =
    let names = c.args.table.now in
    let spell = kid_spelling names (element_spelling names c.args.levels) in (
      each_none (λ (one : Item). each spell (item_kids (node_kids c.args.levels) one))
          c.args.output.now,
      λ left. left,
    )

pub write_items-loop-item-preserved : goal.write_items-loop-item-preserved
write_items-loop-item-preserved t c =
    let names = c.args.table.now in
    let spell = kid_spelling names (element_spelling names c.args.levels) in (
      each_step (λ (one : Item). each spell (item_kids (node_kids c.args.levels) one))
          c.args.items.now c.args.output.now c.loop-item.item-index c.item-item.result
          c.loop-item.output c.write_item.new.output c.loop-item-test.true c.item-item.is
          c.loop-item.invariant.0 c.in_ok-write_item.ensures.written,
      told_more (OfOpened (OfNode c.args.levels)) c.args.items.now c.loop-item.item-index
          c.item-item.result c.loop-item-test.true c.item-item.is c.loop-item.invariant.1
          c.in_ok-write_item.ensures.characters,
    )

pub write_items-returns-clause-written : goal.write_items-returns-clause-written
write_items-returns-clause-written t c =
    let names = c.args.table.now in
    let spell = kid_spelling names (element_spelling names c.args.levels) in
    c.loop-item.invariant.0
    ∙ ap (λ (items : List Item).
    written (each (λ (one : Item). each spell (item_kids (node_kids c.args.levels) one)) items)
    c.args.output.now)
    (take_all c.loop-item.item-index c.args.items.now c.loop-item-test.false)
    ∙ items_written names c.args.levels c.args.items.now c.args.output.now

pub write_node-overflow_add-code_of : goal.write_node-overflow_add-code_of
write_node-overflow_add-code_of t c =
    let small : c.code_of.result < 64 =
    subst (λ (n : ℕ). n < 64) (sym c.code_of.ensures) (code_small c.args.node.now.tag) in
    let attributes = bit_within 128 c.args.node.now.attrs in
    let content = content_within c.give_content.result in
    let is = c.bits.ensures in
    let fits : c.code_of.result + c.bits.result < 256 = omega arith in
    search rules

pub write_node-returns-clause-written : goal.write_node-returns-clause-written
write_node-returns-clause-written t c =
    let node = c.args.node.now in
    let levels = c.args.levels in
    let names = c.args.table.now in
    let spell = kid_spelling names (element_spelling names levels) in
    let kids = items_kids (node_kids levels) node.kids in
    let gives : c.give_content.result ≡ has_any kids =
    c.give_content.ensures
    ∙ ap (λ (items : List Item). has_any (items_kids (node_kids levels) items))
    c.as_slice-items.ensures in
    let bits =
    c.bits.ensures ∙ ap (λ (content : Bool). bit 128 node.attrs + content_bit content) gives
    ∙ bits_are node kids in
    element_written names levels node c.args.output.now c.go_to_tag_page.new.self c.push.new.self
    c.write_attributes.new.output c.write_content.new.output
    c.in_ok-go_to_tag_page.ensures.ok
    (c.in_ok-push.ensures.ok
    ∙ ap (λ (byte : ℕ). written (plain (byte ∷ [])) c.go_to_tag_page.new.self)
    (ap₂ (λ (code bits : ℕ). code + bits) c.code_of.ensures bits))
    (c.in_ok-write_attributes.ensures.written
    ∙ ap (λ (attributes : List (AttrName × List Part)).
    written (ended (attr_spelling names) (map attr_of attributes)) c.push.new.self)
    c.as_slice.ensures)
    (c.in_ok-write_content.ensures.written
    ∙ ap (λ (items : List Item).
    written (ended spell (items_kids (node_kids levels) items)) c.write_attributes.new.output)
    c.as_slice-items.ensures)

-- ---- what is written is of characters

pub write_content-returns-then-not-give_content-clause-characters
    : goal.write_content-returns-then-not-give_content-clause-characters
write_content-returns-then-not-give_content-clause-characters t c =
    c.in_ok-write_items.ensures.characters

pub write_content-returns-clause-characters : goal.write_content-returns-clause-characters
write_content-returns-clause-characters t c = c.in_ok-write_items.ensures.characters

pub write_item-returns-then-levels-eq0-clause-characters
    : goal.write_item-returns-then-levels-eq0-clause-characters
write_item-returns-then-levels-eq0-clause-characters t c =
    let none : c.args.levels ≡ 0 = (let is = c.if-levels-eq0.true in omega arith) in
    node_told (OfNode c.args.levels) c.args.item.now c.in-Node.node c.in-Node.is
    (none_of c.args.levels c.in-Node.node none)

pub write_item-returns-in_ok-write_parts-in-Text-clause-characters
    : goal.write_item-returns-in_ok-write_parts-in-Text-clause-characters
write_item-returns-in_ok-write_parts-in-Text-clause-characters t c =
    text_told (OfNode c.args.levels) c.args.item.now c.in-Text.parts c.in-Text.is
    (subst (AllByRecursion OfPart) c.as_slice.ensures
    c.in_ok-write_parts-in-Text.ensures.characters)

pub write_item-returns-in_ok-write_node-in-Node-clause-characters
    : goal.write_item-returns-in_ok-write_node-in-Node-clause-characters
write_item-returns-in_ok-write_node-in-Node-clause-characters t c =
    let few : 0 < c.args.levels = (let some = c.if-levels-eq0.false in omega arith) in
    node_told (OfNode c.args.levels) c.args.item.now c.in-Node.node c.in-Node.is
    (level_of c.args.levels c.in-Node.node few c.in_ok-write_node-in-Node.ensures.characters)

pub write_items-returns-clause-characters : goal.write_items-returns-clause-characters
write_items-returns-clause-characters t c =
    told_all (OfOpened (OfNode c.args.levels)) c.args.items.now c.loop-item.item-index
    c.loop-item-test.false c.loop-item.invariant.1

pub write_node-returns-clause-characters : goal.write_node-returns-clause-characters
unfolding OfNode
write_node-returns-clause-characters t c = record {
  attrs =
      subst (AllByRecursion OfAttr) c.as_slice.ensures c.in_ok-write_attributes.ensures.characters;
  kids =
      subst (AllByRecursion (OfOpened (OfNode c.args.levels))) c.as_slice-items.ensures
      c.in_ok-write_content.ensures.characters;
}
