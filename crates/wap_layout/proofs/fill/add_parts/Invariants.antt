use Rattle.std.proofs.Common.{◌≡◌, ◌++◌, [], List, ℕ, length}
use denote.Text.{Utf8}
use denote.Shadow.{shadow}
use Rattle.std.specs.Str.{chars, IsAscii}
use Rattle.wap_layout.specs.Calculation.{cut_word, fill}
use Rattle.wap_layout.proofs.fill.add_parts.Given as goal

abbrev pub invariant-loop-rest : goal.invariant-loop-rest
invariant-loop-rest l =
    shadow (Utf8 l.rest) × IsAscii l.rest
    × ((more : List (List ℕ))
    → l.lines ++ fill l.width [] (cut_word l.width (chars l.rest) ++ more)
    ≡ l.initial.lines ++ fill l.width [] (cut_word l.width (chars l.word) ++ more))

abbrev pub decreases-loop-rest : goal.decreases-loop-rest
decreases-loop-rest l = length l.rest
