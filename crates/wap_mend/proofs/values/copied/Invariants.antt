use Rattle.std.proofs.Common.{◌≡◌, take}
use Rattle.wap_mend.proofs.values.copied.Given as goal

abbrev pub invariant-loop-part : goal.invariant-loop-part
invariant-loop-part l = l.copy ≡ take l.part-index l.parts
