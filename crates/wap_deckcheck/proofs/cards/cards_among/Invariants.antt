use Rattle.std.proofs.Common.{◌≡◌, ◌+◌, ◌≤◌, drop, length}
use Rattle.std.specs.List.{filter_map}
use Rattle.wap_tokens.specs.declared.markup.name.Tag.TheVariants.{Card}
use Rattle.wap_tokens.specs.markup.Trees.{node_with}
use Rattle.wap_deckcheck.proofs.cards.cards_among.Given as goal

-- those that were passed, and those that are left
abbrev pub invariant-loop-item : goal.invariant-loop-item
invariant-loop-item l =
    (l.count + length (filter_map (node_with Card) (drop l.item-index l.items))
    ≡ length (filter_map (node_with Card) l.items))
    × (l.count ≤ l.item-index)
