use Rattle.std.proofs.Common.{◌≡◌, ◌++◌, length}
use Rattle.wap_libs.specs.Format.{plain}
use Rattle.wap_libs.proofs.texts.format.add_plain.Given as goal

abbrev pub invariant-loop-rest : goal.invariant-loop-rest
invariant-loop-rest l = l.text ++ plain l.rest ≡ l.initial.text ++ plain l.pieces

abbrev pub decreases-loop-rest : goal.decreases-loop-rest
decreases-loop-rest l = length l.rest
