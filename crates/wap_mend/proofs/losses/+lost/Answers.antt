-- First the attributes of a node go, and its tag, and then what is in it.
use Rattle.std.proofs.Common.{◌<◌, refl, arith}
use Rattle.std.proofs.lemmas.Result.{on_ok_weaker}
use Rattle.wap_mend.specs.declared.change.Lost.{Lost}
use Rattle.wap_mend.proofs.Collecting.{node_more, dressed_more}
use Rattle.wap_mend.proofs.losses.+lost.Goals as goal

pub add_bare-returns : goal.add_bare-returns
add_bare-returns t c =
    let old = c.args.lost.now in
    let one : Lost = record {
      texts = old.texts;
      elements = c.add.new.self;
      attributes = old.attributes;
    } in
    let deep : 0 < c.args.levels = grind (arith, c.if-levels-eq0.false) in
    on_ok_weaker c.add_items.result
    (node_more old one c.add_items.new.lost c.args.levels c.args.node.now c.as_slice.result.now
    deep c.in_ok-add.ensures.ok refl refl c.as_slice.ensures)
    c.add_items.ensures

pub add_node-returns : goal.add_node-returns
add_node-returns t c =
    let old = c.args.lost.now in
    let one : Lost = record {
      texts = old.texts;
      elements = old.elements;
      attributes = c.add_attributes.new.attributes;
    } in
    on_ok_weaker c.add_bare.result
    (dressed_more old one c.add_bare.new.lost c.args.levels c.args.node.now c.as_slice.result.now
    c.as_slice.ensures c.in_ok-add_attributes.ensures refl refl) c.add_bare.ensures
