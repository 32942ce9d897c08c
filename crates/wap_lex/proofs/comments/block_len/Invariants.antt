use Rattle.std.proofs.Common.{◌≡◌, drop, false}
use Rattle.wap_lex.specs.Calculation.{block_len, more_by}
use Rattle.wap_lex.proofs.comments.block_len.Given as goal

-- no `*/` was passed
abbrev pub invariant-loop-at : goal.invariant-loop-at
invariant-loop-at l = more_by l.at (block_len l.star (drop l.at l.bytes)) ≡ block_len false l.bytes
