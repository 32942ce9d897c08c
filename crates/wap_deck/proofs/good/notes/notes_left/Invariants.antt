use Rattle.std.proofs.Common.{◌-◌, ◌≤◌, length}
use Rattle.wap_deck.proofs.good.notes.notes_left.Given as goal

abbrev pub invariant-loop-passed : goal.invariant-loop-passed
invariant-loop-passed l = l.passed ≤ length l.notes

abbrev pub decreases-loop-passed : goal.decreases-loop-passed
decreases-loop-passed l = length l.notes - l.passed
