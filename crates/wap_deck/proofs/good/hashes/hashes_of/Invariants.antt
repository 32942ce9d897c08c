use Rattle.std.proofs.Common.{◌≡◌, ◌++◌, map, drop}
use Rattle.std.specs.List.{filter_map}
use Rattle.wap_tokens.specs.declared.markup.name.Tag.TheVariants.{Card}
use Rattle.wap_tokens.specs.markup.Trees.{node_with}
use Rattle.wap_deck.specs.good.inside.Hashes.{id_hash}
use Rattle.wap_deck.proofs.good.hashes.hashes_of.Given as goal

-- the hashes of those that were passed, and those that are left
abbrev pub invariant-loop-item : goal.invariant-loop-item
invariant-loop-item l =
    l.hashes.items ++ map id_hash (filter_map (node_with Card) (drop l.item-index l.deck.root.kids))
    ≡ map id_hash (filter_map (node_with Card) l.deck.root.kids)
