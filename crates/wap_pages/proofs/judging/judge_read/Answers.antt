use Rattle.std.proofs.Common.{Err, sym, subst}
use Rattle.wap_pages.specs.declared.fault.PageErr.{PageErr}
use Rattle.wap_pages.specs.inside.Judging.{JudgesDeck}
use Rattle.wap_pages.proofs.Judgements.{deck_refused_for}
use Rattle.wap_pages.proofs.judging.judge_read.Goals as goal

pub returns : goal.returns
returns c =
    subst (λ (e : PageErr). JudgesDeck c.args.deck (Err e)) (sym c.from.ensures)
    (deck_refused_for c.args.deck c.in-Err.fault c.in-Err.ensures.first)
