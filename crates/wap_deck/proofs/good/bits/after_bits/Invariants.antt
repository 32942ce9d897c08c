use Rattle.std.proofs.Common.{◌≡◌, length, None}
use Rattle.wap_deck.specs.good.Readers.{IsBehind}
use Rattle.wap_deck.specs.good.Texts.{part_end, behind_value}
use Rattle.wap_deck.proofs.good.bits.after_bits.Given as goal

-- what is left is after bits
abbrev pub invariant-loop-behind : goal.invariant-loop-behind
invariant-loop-behind l = record {
  exact : part_end (behind_value l.bytes) ≡ None → behind_value l.rest ≡ behind_value l.bytes;
  behind : IsBehind l.rest l.bytes;
}

abbrev pub decreases-loop-behind : goal.decreases-loop-behind
decreases-loop-behind l = length l.rest
