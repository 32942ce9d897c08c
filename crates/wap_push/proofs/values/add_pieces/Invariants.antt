use Rattle.std.proofs.Common.{◌≡◌, ◌++◌, take}
use Rattle.std.specs.List.{flat_map}
use Rattle.wap_push.specs.Fields.{piece_text}
use Rattle.wap_push.proofs.values.add_pieces.Given as goal

abbrev pub invariant-loop-piece : goal.invariant-loop-piece
invariant-loop-piece l =
    l.text ≡ l.initial.text ++ flat_map piece_text (take l.piece-index l.pieces)
