use Rattle.std.proofs.Common.{◌≡◌, ◌≤◌, drop}
use Rattle.std.specs.List.{fold}
use Rattle.wap_lex.specs.Numbers.{with_digit, numeral, integer_limit}
use Rattle.wap_lex.proofs.numbers.value_of.Given as goal

-- the value so far, and that it is in range
abbrev pub invariant-loop-digit : goal.invariant-loop-digit
invariant-loop-digit l = record {
  whole : fold (with_digit l.base) l.value (drop l.digit-index l.digits) ≡ numeral l.base l.digits;
  small : l.value ≤ integer_limit;
  high : l.base ≤ 16;
  low : 2 ≤ l.base;
}
