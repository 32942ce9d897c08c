use Rattle.std.proofs.Common.{◌≡◌, ◌++◌, length, drop}
use Rattle.std.specs.Str.{chars}
use Rattle.wap_cardrules.specs.Selects.{pieces_of}
use Rattle.wap_cards.proofs.InputsLemmas.Splitting.{pieces_from}
use Rattle.wap_cards.proofs.inputs.pieces.pieces_of.Given as goal

abbrev pub invariant-loop-character : goal.invariant-loop-character
invariant-loop-character l =
    l.pieces ++ pieces_from l.piece (drop (length l.yielded) (chars l.text))
    ≡ pieces_of (chars l.text)
