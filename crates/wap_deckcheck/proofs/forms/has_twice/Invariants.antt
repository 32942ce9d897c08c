use Rattle.std.proofs.Common.{◌≡◌, map, length}
use Rattle.wap_deckcheck.specs.Faults.{has_twice}
use Rattle.wap_deckcheck.proofs.forms.has_twice.Given as goal

abbrev pub decreases-loop-first : goal.decreases-loop-first
decreases-loop-first l = length l.left

abbrev pub invariant-loop-first : goal.invariant-loop-first
invariant-loop-first l = has_twice (map (λ a. a.0) l.left) ≡ has_twice (map (λ a. a.0) l.attrs)
