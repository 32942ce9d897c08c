use Rattle.std.proofs.Common.{◌≡◌, drop}
use Rattle.std.specs.List.{filter_map}
use Rattle.wap_tokens.specs.declared.markup.name.Tag.TheVariants.{Card}
use Rattle.wap_tokens.specs.markup.Trees.{node_with}
use Rattle.wap_deckcheck.specs.Faults.{lacks_card}
use Rattle.wap_deckcheck.proofs.walk.lacks_card.Given as goal

-- what is left tells it
abbrev pub invariant-loop-item : goal.invariant-loop-item
invariant-loop-item l =
    lacks_card (filter_map (node_with Card) (drop l.item-index l.items))
    ≡ lacks_card (filter_map (node_with Card) l.items)
