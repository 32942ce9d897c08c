use Rattle.std.proofs.Common.{ℕ, List, length}
use Rattle.wap_deck.specs.good.Readers.{IsBehind}
use Rattle.wap_deck.specs.good.inside.Nodes.{attr_at}
use Rattle.wap_deck.proofs.GoodLemmas.Ending.{Closes}
use Rattle.wap_deck.proofs.GoodLemmas.HeadLaw.{ArePassed}
use Rattle.wap_deck.proofs.good.heads.names_in.Given as goal

-- the names of the attributes before what is left are marked, and what is left has the end that all
-- had
abbrev pub invariant-loop-name : goal.invariant-loop-name
invariant-loop-name l = record {
  passed : ArePassed l.bytes l.names l.rest;
  exact : (table end : List ℕ) → Closes (attr_at table) l.bytes end
      → Closes (attr_at table) l.rest end;
  behind : IsBehind l.rest l.bytes;
}

abbrev pub decreases-loop-name : goal.decreases-loop-name
decreases-loop-name l = length l.rest
