use Rattle.std.proofs.Common.{take}
use Rattle.std.specs.List.{flat_map}
use Rattle.wap_dis.specs.Listing.{hex_byte}
use Rattle.wap_dis.specs.inside.Gathering.{Gathers}
use Rattle.wap_dis.specs.inside.Gathered.{state}
use Rattle.wap_dis.proofs.word.put_hex.Given as goal

abbrev pub invariant-loop-byte : goal.invariant-loop-byte
invariant-loop-byte g l =
    Gathers (g.O.Sink.seen l.fn.out) (g.O.Sink.seen l.out) (state l.fn.held) (state l.held)
    (flat_map hex_byte (take l.byte-index l.bytes))
