use Rattle.std.proofs.Common.{◌≡◌, ◌+◌, drop}
use Rattle.wap_wbxml.specs.reading.Fronts.{zero_place}
use Rattle.wap_wbxml.proofs.fronts.zero_place.Given as goal

-- no byte passed is 0
abbrev pub invariant-loop-at : goal.invariant-loop-at
invariant-loop-at l = l.at + zero_place (drop l.at l.bytes) ≡ zero_place l.bytes
