use Rattle.std.proofs.Common.{◌≡◌, ◌++◌, map}
use Rattle.std.specs.List.{filter_map}
use Rattle.wap_tokens.specs.markup.Trees.{node_with}
use Rattle.wap_cardrules.specs.Tasks.{pair_in}
use Rattle.wap_cards.proofs.tasks.pairs_with.Given as goal

abbrev pub invariant-loop-child : goal.invariant-loop-child
invariant-loop-child l =
    l.pairs ++ map (pair_in l.vars) (filter_map (node_with l.tag) l.child-iterator)
    ≡ map (pair_in l.vars) (filter_map (node_with l.tag) l.view.kids)
