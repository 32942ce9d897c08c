use Rattle.wap_context.specs.inside.Moving.{next_in, pursued}
use Rattle.wap_context.proofs.Pursuing.{Going, turns_left}
use Rattle.wap_context.proofs.context.Context.follow.Given as goal

abbrev pub invariant-loop-went : goal.invariant-loop-went
invariant-loop-went g l =
    Going (pursued l.fn.first) (g.P.Pages.seen l.fn.pages) (g.P.Pages.seen l.pages) l.fn.self l.self
    l.fn.lines l.shown l.went

abbrev pub decreases-loop-went : goal.decreases-loop-went
decreases-loop-went g l = turns_left l.self (next_in l.went)
