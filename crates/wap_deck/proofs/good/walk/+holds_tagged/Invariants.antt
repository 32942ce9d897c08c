use Rattle.std.proofs.Common.{◌≡◌}
use Rattle.std.specs.List.{list_any}
use Rattle.wap_tokens.specs.markup.Good.{nodes_in}
use Rattle.wap_tokens.specs.markup.Tables.{is_same_tag}
use Rattle.wap_deck.proofs.good.walk.+holds_tagged.Given as goal

abbrev pub decreases-holds_tagged : goal.decreases-holds_tagged
decreases-holds_tagged l = l.levels

-- it is to be seen from the children that are left
abbrev pub invariant-loop-child : goal.invariant-loop-child
invariant-loop-child l =
    list_any (λ node. is_same_tag node.tag l.tag) (nodes_in l.levels l.child-iterator)
    ≡ list_any (λ node. is_same_tag node.tag l.tag) (nodes_in l.levels l.view.kids)
