use Rattle.std.proofs.Common.{◌≡◌, ◌++◌, length}
use Rattle.std.specs.Prelude.{option_map}
use denote.Text.{Utf8}
use denote.Shadow.{shadow}
use Rattle.std.specs.Str.{chars}
use Rattle.wap_mask.specs.Calculation.{symbols_of}
use Rattle.wap_mask.proofs.mask.symbols_of.Given as goal

abbrev pub invariant-loop-symbol : goal.invariant-loop-symbol
invariant-loop-symbol l =
    shadow (Utf8 l.rest)
    × (option_map (λ more. l.symbols ++ more) (symbols_of (chars l.rest))
    ≡ symbols_of (chars l.text))

abbrev pub decreases-loop-symbol : goal.decreases-loop-symbol
decreases-loop-symbol l = length (chars l.rest)
