use Rattle.std.proofs.Common.{◌≡◌, take}
use Rattle.wap_mend.proofs.kept.Attributes.copy.Given as goal

abbrev pub invariant-loop-attribute : goal.invariant-loop-attribute
invariant-loop-attribute l = l.rows ≡ take l.attribute-index l.self.rows
