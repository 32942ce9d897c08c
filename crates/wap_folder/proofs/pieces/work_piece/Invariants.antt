use Rattle.std.proofs.Common.{slice_range}
use Rattle.std.specs.List.{AllZip}
use Rattle.wap_folder.proofs.pieces.work_piece.Given as goal

-- the first jobs of the piece have their answers
abbrev pub invariant-loop-i : goal.invariant-loop-i
invariant-loop-i g l =
    AllZip (g.W.Work.right l.work) (slice_range l.jobs l.from l.i) l.answers.items
