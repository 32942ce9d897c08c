use Rattle.std.proofs.Common.{◌≡◌, ◌++◌, map, take}
use Rattle.std.specs.Str.{chars}
use Rattle.wap_url.specs.Segments.{path_of}
use Rattle.wap_url.proofs.dots.add_joined.Given as goal

abbrev pub invariant-loop-i : goal.invariant-loop-i
invariant-loop-i l = l.out ≡ l.initial.out ++ path_of (map (λ s. chars s.now) (take l.i l.segments))
