use Rattle.std.proofs.Common.{◌≡◌, ◌++◌, length}
use denote.Text.{Utf8}
use denote.Shadow.{shadow}
use Rattle.std.specs.List.{flat_map, slice_split}
use Rattle.std.specs.Str.{chars}
use Rattle.wap_layout.specs.Blanks.{is_line_feed}
use Rattle.wap_layout.specs.Pieces.{kept}
use Rattle.wap_layout.specs.Calculation.{piece_lines}
use Rattle.wap_layout.specs.inside.Endings.{is_hard}
use Rattle.wap_layout.proofs.page.add_kept.Given as goal

abbrev pub invariant-loop-line : goal.invariant-loop-line
invariant-loop-line l =
    shadow (Utf8 l.rest)
    × (l.lines ++ flat_map (piece_lines l.width)
    (kept (slice_split is_line_feed (chars l.rest)) (is_hard l.ending))
    ≡ l.initial.lines ++ flat_map (piece_lines l.width)
    (kept (slice_split is_line_feed (chars l.text)) (is_hard l.ending)))

abbrev pub decreases-loop-line : goal.decreases-loop-line
decreases-loop-line l = length l.rest
