use Rattle.std.proofs.Common.{◌≡◌, ◌≤◌, ◌-◌, length}
use Rattle.wap_lex.specs.Calculation.{pieces_at}
use Rattle.wap_lex.proofs.Loops.{with_front}
use Rattle.wap_lex.proofs.lexer.pieces.Given as goal

abbrev pub invariant-loop : goal.invariant-loop
invariant-loop l = record {
  passed : with_front l.tokens
      (pieces_at (length l.src - l.counter) (length l.src - length l.rest) l.rest)
      ≡ pieces_at (length l.src) 0 l.src;
  within : length l.rest ≤ length l.src;
}
