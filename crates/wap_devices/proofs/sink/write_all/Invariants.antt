use Rattle.std.proofs.Common.{◌≡◌, ◌++◌, List, ℕ, length}
use Rattle.wap_devices.proofs.Putting.{HasPut}
use Rattle.wap_devices.proofs.sink.write_all.Given as goal

-- a prefix of the piece was written, and the rest is to come
abbrev pub invariant-loop-rest : goal.invariant-loop-rest
invariant-loop-rest g l = record {
  prefix : List ℕ;
  split : l.piece ≡ prefix ++ l.rest;
  put : HasPut prefix (g.O.Sink.seen l.fn.out) (g.O.Sink.seen l.out);
}

abbrev pub decreases-loop-rest : goal.decreases-loop-rest
decreases-loop-rest g l = length l.rest
