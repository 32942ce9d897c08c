use Rattle.std.proofs.Common.{◌≡◌, ◌++◌, length}
use Rattle.std.specs.Prelude.{option_map}
use Rattle.wap_libs.specs.FormatReading.{pieces_of}
use Rattle.wap_libs.proofs.texts.pieces.pieces_of.Given as goal

abbrev pub invariant-loop-rest : goal.invariant-loop-rest
invariant-loop-rest l =
    option_map (λ more. l.pieces ++ more) (pieces_of l.rest) ≡ pieces_of l.format

abbrev pub decreases-loop-rest : goal.decreases-loop-rest
decreases-loop-rest l = length l.rest
