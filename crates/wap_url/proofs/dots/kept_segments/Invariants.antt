use Rattle.std.proofs.Common.{◌≡◌, map, [], length, fold}
use denote.Text.{Utf8}
use denote.Shadow.{shadow}
use Rattle.wap_url.specs.Segments.{segments, last_segment}
use Rattle.wap_url.specs.Joining.{kept_with}
use Rattle.wap_url.proofs.dots.kept_segments.Given as goal

-- the rest is text, and what is left to do with it gives what is to be done with the path
abbrev pub invariant-loop-segment : goal.invariant-loop-segment
invariant-loop-segment l =
    shadow (Utf8 l.rest)
    × (fold kept_with (map (λ s. s.now) l.kept.items) (segments l.rest)
    ≡ fold kept_with [] (segments l.path))
    × (last_segment (segments l.rest) ≡ last_segment (segments l.path))

abbrev pub decreases-loop-segment : goal.decreases-loop-segment
decreases-loop-segment l = length l.rest
