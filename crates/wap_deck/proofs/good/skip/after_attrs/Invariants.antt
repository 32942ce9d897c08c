use Rattle.std.proofs.Common.{ℕ, List, length}
use Rattle.wap_deck.specs.good.Readers.{IsBehind}
use Rattle.wap_deck.specs.good.inside.Nodes.{attr_at}
use Rattle.wap_deck.proofs.GoodLemmas.Ending.{Closes}
use Rattle.wap_deck.proofs.good.skip.after_attrs.Given as goal

-- what is left has the end that all had
abbrev pub invariant-loop-rest : goal.invariant-loop-rest
invariant-loop-rest l = record {
  exact : (table end : List ℕ) → Closes (attr_at table) l.bytes end
      → Closes (attr_at table) l.rest end;
  behind : IsBehind l.rest l.bytes;
}

abbrev pub decreases-loop-rest : goal.decreases-loop-rest
decreases-loop-rest l = length l.rest
