use Rattle.std.proofs.Common.{◌≡◌}
use Rattle.wap_tokens.specs.markup.Writing.{runs_of}
use Rattle.wap_deck.proofs.writing.runs.runs_in.Given as goal

abbrev pub invariant-loop-character : goal.invariant-loop-character
invariant-loop-character l = l.runs ≡ runs_of l.yielded
