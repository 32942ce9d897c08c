use Rattle.std.proofs.Common.{◌≡◌, ◌≤◌, ◌-◌, length, drop}
use Rattle.wap_base.specs.Numbers.{mb_after, mb_at}
use Rattle.wap_base.proofs.number.mb_from.Given as goal

-- what is still to be read goes on with the value so far
abbrev pub invariant-loop : goal.invariant-loop
invariant-loop l = record {
  within : l.next ≤ length l.bytes;
  goes_on : mb_after l.at (length l.bytes) (5 - l.counter) l.value l.next (drop l.next l.bytes)
      ≡ mb_at l.bytes l.at;
}
