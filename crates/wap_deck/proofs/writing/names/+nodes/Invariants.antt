use Rattle.std.proofs.Common.{◌≡◌, take}
use Rattle.std.specs.List.{fold}
use Rattle.wap_tokens.specs.markup.Writing.{item_kids, node_kids}
use Rattle.wap_wbxml.specs.spelling.Names.{with_kid, with_element}
use Rattle.wap_deck.proofs.writing.names.+nodes.Given as goal

abbrev pub invariant-add_items-loop-item : goal.invariant-add_items-loop-item
invariant-add_items-loop-item l =
    l.names.keys
    ≡ fold (λ names one.
    fold (with_kid (with_element l.levels)) names (item_kids (node_kids l.levels) one))
    l.initial.names.keys
    (take l.item-index l.items)
