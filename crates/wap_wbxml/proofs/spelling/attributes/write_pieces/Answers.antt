use Rattle.wap_wbxml.specs.spelling.Spelling.{piece_spelling}
use Rattle.wap_wbxml.proofs.SpellingLemmas.Appending.{each_none, each_step}
use Rattle.wap_wbxml.proofs.spelling.attributes.write_pieces.Goals as goal

pub loop-piece-init : goal.loop-piece-init
loop-piece-init c = each_none piece_spelling c.args.output.now

pub loop-piece-preserved : goal.loop-piece-preserved
loop-piece-preserved c =
    each_step piece_spelling c.args.pieces.now c.args.output.now c.loop-piece.piece-index
    c.piece-item.result
    c.loop-piece.output c.write_piece.new.output c.loop-piece-test.true c.piece-item.is
    c.loop-piece.invariant
    c.in_ok-write_piece.ensures
