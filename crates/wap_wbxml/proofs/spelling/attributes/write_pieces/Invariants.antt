use Rattle.std.proofs.Common.{◌≡◌, take}
use Rattle.wap_wbxml.specs.spelling.Writings.{each}
use Rattle.wap_wbxml.specs.spelling.Spelling.{piece_spelling}
use Rattle.wap_wbxml.specs.spelling.Written.{written}
use Rattle.wap_wbxml.proofs.spelling.attributes.write_pieces.Given as goal

abbrev pub invariant-loop-piece : goal.invariant-loop-piece
invariant-loop-piece l =
    l.output ≡ written (each piece_spelling (take l.piece-index l.pieces)) l.initial.output
