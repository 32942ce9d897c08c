use Rattle.wap_dis.specs.Listing.{shown}
use Rattle.wap_dis.specs.inside.Gathering.{Gathers}
use Rattle.wap_dis.specs.inside.Gathered.{state}
use Rattle.wap_dis.proofs.word.put_shown.Given as goal

abbrev pub invariant-loop-character : goal.invariant-loop-character
invariant-loop-character g l =
    Gathers (g.O.Sink.seen l.fn.out) (g.O.Sink.seen l.out) (state l.fn.held) (state l.held)
    (shown l.yielded)
