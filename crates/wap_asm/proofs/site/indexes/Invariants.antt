use Rattle.wap_asm.specs.inside.Indexes.{AreIndexes}
use Rattle.wap_asm.proofs.site.indexes.Given as goal

abbrev pub invariant-loop-i : goal.invariant-loop-i
invariant-loop-i l = AreIndexes l.forms l.i l.labels
