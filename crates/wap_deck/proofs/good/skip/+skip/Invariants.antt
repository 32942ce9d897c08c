use Rattle.std.proofs.Common.{ℕ, ◌+◌, ◌*◌, ◌≤◌, List, length}
use Rattle.wap_deck.specs.good.Readers.{IsBehind}
use Rattle.wap_deck.specs.good.inside.Nodes.{item_at}
use Rattle.wap_deck.proofs.GoodLemmas.Ending.{Closes}
use Rattle.wap_deck.proofs.good.skip.+skip.Given as goal

abbrev pub decreases-after_content : goal.decreases-after_content
decreases-after_content l = 4 * l.levels

abbrev pub decreases-after_node : goal.decreases-after_node
decreases-after_node l = 4 * l.levels + 1

abbrev pub decreases-after_item : goal.decreases-after_item
decreases-after_item l = 4 * l.levels + 2

abbrev pub decreases-after_kids : goal.decreases-after_kids
decreases-after_kids l = 4 * l.levels + 3

-- what is left has the end that all had
abbrev pub invariant-after_kids-loop-rest : goal.invariant-after_kids-loop-rest
invariant-after_kids-loop-rest l = record {
  exact : (table : List ℕ) (below : ℕ) → below ≤ l.levels → (end : List ℕ)
      → Closes (item_at table below) l.bytes end → Closes (item_at table below) l.rest end;
  behind : IsBehind l.rest l.bytes;
}

abbrev pub decreases-after_kids-loop-rest : goal.decreases-after_kids-loop-rest
decreases-after_kids-loop-rest l = length l.rest
