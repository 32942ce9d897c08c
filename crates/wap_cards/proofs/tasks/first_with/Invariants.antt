use Rattle.std.proofs.Common.{◌≡◌, true}
use Rattle.std.specs.Prelude.{find}
use Rattle.std.specs.List.{filter_map}
use Rattle.wap_tokens.specs.markup.Trees.{node_with}
use Rattle.wap_cards.proofs.tasks.first_with.Given as goal

abbrev pub invariant-loop-child : goal.invariant-loop-child
invariant-loop-child l =
    find (λ _. true) (filter_map (node_with l.tag) l.child-iterator)
    ≡ find (λ _. true) (filter_map (node_with l.tag) l.view.kids)
