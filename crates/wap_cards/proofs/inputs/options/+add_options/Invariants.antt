use Rattle.std.proofs.Common.{◌≡◌, ◌++◌}
use Rattle.wap_tokens.specs.markup.Good.{nodes_in}
use Rattle.wap_cards.proofs.InputsLemmas.Walks.{options_in}
use Rattle.wap_cards.proofs.inputs.options.+add_options.Given as goal

abbrev pub decreases-add_options : goal.decreases-add_options
decreases-add_options l = l.levels

abbrev pub invariant-loop-child : goal.invariant-loop-child
invariant-loop-child l =
    l.options ++ options_in (nodes_in l.levels l.child-iterator)
    ≡ l.initial.options ++ options_in (nodes_in l.levels l.view.kids)
