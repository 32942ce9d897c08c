use Rattle.std.proofs.Common.{◌≡◌, ◌++◌, length}
use denote.Text.{Utf8}
use denote.Shadow.{shadow}
use Rattle.std.specs.Str.{chars}
use Rattle.wap_layout.specs.Blanks.{words_of}
use Rattle.wap_layout.specs.Calculation.{filled}
use Rattle.wap_layout.specs.inside.Slices.{fill_text}
use Rattle.wap_layout.proofs.fill.add_filled.Given as goal

abbrev pub invariant-loop-rest : goal.invariant-loop-rest
invariant-loop-rest l =
    shadow (Utf8 l.rest) × (l.columns ≡ length l.line)
    × (l.lines ++ fill_text l.width l.line l.rest
    ≡ l.initial.lines ++ filled l.width (words_of (chars l.text)))

abbrev pub decreases-loop-rest : goal.decreases-loop-rest
decreases-loop-rest l = length l.rest
