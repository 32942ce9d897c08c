use Rattle.std.proofs.Common.{◌≡◌, ◌++◌, take, drop}
use Rattle.wap_base.specs.Cuts.{until, onward}
use Rattle.wap_url.specs.inside.Cut.{stops}
use Rattle.wap_url.proofs.cut.cut_at.Given as goal

-- no byte so far ends the part
abbrev pub invariant-loop-i : goal.invariant-loop-i
invariant-loop-i l = record {
  before : until (stops l.at) l.bytes ≡ take l.i l.bytes ++ until (stops l.at) (drop l.i l.bytes);
  after : onward (stops l.at) l.bytes ≡ onward (stops l.at) (drop l.i l.bytes);
}
