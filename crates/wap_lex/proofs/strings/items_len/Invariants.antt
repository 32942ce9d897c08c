use Rattle.std.proofs.Common.{◌≡◌, ◌≤◌, ◌+◌, ◌-◌, length}
use Rattle.wap_lex.specs.Calculation.{items_len}
use Rattle.wap_lex.proofs.strings.items_len.Given as goal

-- what was passed are items
abbrev pub invariant-loop : goal.invariant-loop
invariant-loop l = record {
  passed : (length l.bytes - length l.rest) + items_len (length l.bytes - l.counter) l.quote l.rest
      ≡ items_len (length l.bytes) l.quote l.bytes;
  within : length l.rest ≤ length l.bytes;
}
