use Rattle.std.proofs.Common.{List, ◌<◌, map, ap, ◌∙◌, arith}
use Rattle.std.proofs.lemmas.List.{take_all}
use Rattle.std.specs.List.{fold}
use Rattle.wap_base.specs.declared.name.Part.{Part}
use Rattle.wap_tokens.specs.declared.markup.name.AttrName.{AttrName}
use Rattle.wap_tokens.specs.declared.markup.deck.Item.{Item}
use Rattle.wap_tokens.specs.markup.Writing.{attr_of, item_kids, items_kids, node_kids}
use Rattle.wap_wbxml.specs.spelling.Names.{with_attr, with_kid, with_element}
use Rattle.wap_deck.proofs.WritingLemmas.Naming.{Names, fold_flat, text_adds, node_adds}
use Rattle.wap_deck.proofs.WritingLemmas.Naming.{element_adds}
use Rattle.wap_deck.proofs.writing.names.+nodes.Goals as goal

pub add_item-returns-in-Text : goal.add_item-returns-in-Text
add_item-returns-in-Text t c =
    text_adds c.args.levels c.args.item.now c.in-Text.field-0 c.in-Text.is c.args.names.now.keys

pub add_item-returns-in_ok-add_node-in-Node : goal.add_item-returns-in_ok-add_node-in-Node
add_item-returns-in_ok-add_node-in-Node t c =
    let few : 0 < c.args.levels = (let some = c.if-levels-eq0.false in omega arith) in
    node_adds c.args.levels c.args.item.now c.in-Node.node c.in-Node.is few c.args.names.now.keys
    c.add_node.new.names.keys
    c.in_ok-add_node-in-Node.ensures

pub add_items-returns : goal.add_items-returns
add_items-returns t c =
    let step = with_kid (with_element c.args.levels) in
    let gives = item_kids (node_kids c.args.levels) in
    c.loop-item.invariant
    ∙ ap (λ (items : List Item).
    fold (λ (names : Names) (one : Item). fold step names (gives one)) c.args.names.now.keys items)
    (take_all c.loop-item.item-index c.args.items.now c.loop-item-test.false)
    ∙ fold_flat step gives c.args.items.now c.args.names.now.keys

pub add_node-returns : goal.add_node-returns
add_node-returns t c =
    let step = with_kid (with_element c.args.levels) in
    element_adds c.args.levels c.args.node.now c.args.names.now.keys c.add_attributes.new.names.keys
    c.add_items.new.names.keys
    (c.in_ok-add_attributes.ensures
    ∙ ap (λ (attributes : List (AttrName × List Part)).
    fold with_attr c.args.names.now.keys (map attr_of attributes)) c.as_slice.ensures)
    (c.in_ok-add_items.ensures
    ∙ ap (λ (items : List Item). fold step c.add_attributes.new.names.keys
    (items_kids (node_kids c.args.levels) items)) c.as_slice-2.ensures)
