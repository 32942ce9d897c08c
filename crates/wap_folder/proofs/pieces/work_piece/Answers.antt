use Rattle.std.proofs.Common.{◌+◌, subst, sym, arith}
use Rattle.std.specs.List.{AllZip}
use Rattle.std.proofs.Common.{slice_range}
use Rattle.wap_folder.proofs.PieceLaws.{piece_more}
use Rattle.wap_folder.proofs.pieces.work_piece.Goals as goal

pub loop-i-preserved : goal.loop-i-preserved
loop-i-preserved g c =
    let R = g.W.Work.right c.args.work.now in
    let jobs = c.args.jobs.now in
    let from = c.args.from in
    let i = c.loop-i.i in
    subst (λ answers. AllZip R (slice_range jobs from (i + 1)) answers)
    (sym c.in_ok-push.ensures.items)
    (piece_more R jobs from i c.index-jobs-i.result c.loop-i.answers.items c.work.result
    (omega arith) (omega arith) c.index-jobs-i.is c.loop-i.invariant c.work.ensures)
