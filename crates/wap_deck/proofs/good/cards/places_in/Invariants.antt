use Rattle.std.proofs.Common.{length}
use Rattle.wap_deck.specs.good.Readers.{all_of, IsBehind}
use Rattle.wap_deck.specs.good.inside.Nodes.{item_at}
use Rattle.wap_deck.specs.good.inside.Notes.{AreLent}
use Rattle.wap_deck.proofs.GoodLemmas.CardLaw.{levels_below, tagged_in, Placed}
use Rattle.wap_deck.proofs.good.cards.places_in.Given as goal

abbrev pub invariant-loop-child : goal.invariant-loop-child
invariant-loop-child l = record {
  behind : IsBehind l.rest l.bytes;
  lent : AreLent l.table levels_below l.rest l.left;
  placed : Placed l.tag l.table l.bytes l.places
      (tagged_in l.tag (all_of (item_at l.table levels_below) l.content).0) l.rest;
}

abbrev pub decreases-loop-child : goal.decreases-loop-child
decreases-loop-child l = length l.rest
