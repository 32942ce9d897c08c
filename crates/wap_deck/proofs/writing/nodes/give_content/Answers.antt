use Rattle.std.proofs.Common.{sym, ◌∙◌}
use Rattle.wap_tokens.specs.markup.Writing.{item_kids, node_kids}
use Rattle.wap_deck.proofs.WritingLemmas.Emptiness.{given, passed}
use Rattle.wap_deck.proofs.writing.nodes.give_content.Goals as goal

pub returns-then-gives : goal.returns-then-gives
returns-then-gives c =
    given (item_kids (node_kids c.args.levels))
    c.args.items.now c.loop-item.item-index c.item-item.result
    c.loop-item-test.true c.item-item.is c.loop-item.invariant
    (sym c.if-gives.true ∙ c.gives.ensures)

pub loop-item-preserved : goal.loop-item-preserved
loop-item-preserved c =
    passed (item_kids (node_kids c.args.levels))
    c.args.items.now c.loop-item.item-index c.item-item.result
    c.loop-item-test.true c.item-item.is c.loop-item.invariant
    (sym c.if-gives.false ∙ c.gives.ensures)
