use Rattle.std.proofs.Common.{◌≡◌}
use Rattle.wap_tokens.specs.markup.Trees.{plain_text, is_text}
use Rattle.wap_deck.specs.good.Runs.{is_utf8_of}
use Rattle.wap_deck.proofs.good.run.Run.is_text.Given as goal

-- it is to be seen from what is left of both
abbrev pub invariant-loop-bit : goal.invariant-loop-bit
invariant-loop-bit l =
    is_text l.text (plain_text l.self) ≡ is_utf8_of l.left (plain_text l.bit-iterator)
