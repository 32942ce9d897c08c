use Rattle.std.proofs.Common.{◌≡◌, length}
use Rattle.wap_deck.specs.good.Readers.{all_of, Ends}
use Rattle.wap_deck.specs.good.inside.Nodes.{attr_at}
use Rattle.wap_deck.specs.good.inside.Starts.{value_in}
use Rattle.wap_deck.proofs.good.attrs.find_among.Given as goal

-- no attribute passed has that name
abbrev pub invariant-loop-found : goal.invariant-loop-found
invariant-loop-found l = record {
  value : value_in l.name (all_of (attr_at l.table) l.rest).0
      ≡ value_in l.name (all_of (attr_at l.table) l.bytes).0;
  ends : Ends (attr_at l.table) l.rest;
}

abbrev pub decreases-loop-found : goal.decreases-loop-found
decreases-loop-found l = length l.rest
