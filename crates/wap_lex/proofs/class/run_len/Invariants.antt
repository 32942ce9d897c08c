use Rattle.std.proofs.Common.{◌≡◌, ◌+◌, drop}
use Rattle.std.specs.List.{prefix_len}
use Rattle.wap_lex.specs.Characters.{is_in}
use Rattle.wap_lex.proofs.class.run_len.Given as goal

-- what was passed is of the class
abbrev pub invariant-loop-at : goal.invariant-loop-at
invariant-loop-at l =
    l.at + prefix_len (is_in l.class) (drop l.at l.bytes) ≡ prefix_len (is_in l.class) l.bytes
