use Rattle.std.proofs.Common.{◌-◌, take, drop}
use Rattle.std.specs.List.{flat_map, enumerate_from}
use Rattle.wap_dis.specs.Listing.{byte_line}
use Rattle.wap_dis.specs.inside.Gathering.{Gathers}
use Rattle.wap_dis.specs.inside.Gathered.{state}
use Rattle.wap_dis.proofs.listed.put_bytes.Given as goal

abbrev pub invariant-loop-place : goal.invariant-loop-place
invariant-loop-place g l =
    Gathers (g.O.Sink.seen l.fn.out) (g.O.Sink.seen l.out) (state l.fn.held) (state l.held)
    (flat_map byte_line (enumerate_from l.at (take (l.place - l.at) (drop l.at l.code))))
