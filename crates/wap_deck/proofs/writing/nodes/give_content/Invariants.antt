use Rattle.std.proofs.Common.{◌≡◌, drop}
use Rattle.wap_tokens.specs.markup.Writing.{items_kids, node_kids}
use Rattle.wap_deck.specs.writing.inside.WrittenTexts.{has_any}
use Rattle.wap_deck.proofs.writing.nodes.give_content.Given as goal

-- what is left tells it
abbrev pub invariant-loop-item : goal.invariant-loop-item
invariant-loop-item l =
    has_any (items_kids (node_kids l.levels) (drop l.item-index l.items))
    ≡ has_any (items_kids (node_kids l.levels) l.items)
