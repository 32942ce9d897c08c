use Rattle.std.proofs.Common.{◌≡◌, ℕ, List, ◌-◌, ◌++◌, length}
use Rattle.wap_dis.specs.Listing.{code_from}
use Rattle.wap_dis.specs.inside.Gathering.{Gathers}
use Rattle.wap_dis.specs.inside.Gathered.{state}
use Rattle.wap_dis.proofs.listed.put_code.Given as goal

-- what was put, and what follows from the place on
abbrev pub invariant-loop : goal.invariant-loop
invariant-loop g l = record {
  text : List ℕ;
  puts : Gathers (g.O.Sink.seen l.fn.out) (g.O.Sink.seen l.out) (state l.fn.held) (state l.held)
      text;
  goes_on : text ++ code_from (length l.code - l.counter) l.code l.at
      ≡ code_from (length l.code) l.code 0;
}
