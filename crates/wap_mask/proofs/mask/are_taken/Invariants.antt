use Rattle.std.proofs.Common.{◌≡◌, drop}
use denote.Text.{Utf8}
use denote.Shadow.{shadow}
use Rattle.std.specs.Str.{chars}
use Rattle.wap_mask.specs.Calculation.{is_taken}
use Rattle.wap_mask.proofs.mask.are_taken.Given as goal

abbrev pub invariant-loop-symbol : goal.invariant-loop-symbol
invariant-loop-symbol l =
    shadow (Utf8 l.rest)
    × (is_taken (drop l.symbol-index l.symbols) (chars l.rest) ≡ is_taken l.symbols (chars l.text))
