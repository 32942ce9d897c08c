use Rattle.std.proofs.Common.{◌*◌, ◌+◌}
use Rattle.wap_mend.proofs.needs.+needs.Given as goal

abbrev pub decreases-is_whole : goal.decreases-is_whole
decreases-is_whole l = 3 * l.levels + 1

abbrev pub decreases-has_needed : goal.decreases-has_needed
decreases-has_needed l = 3 * l.levels + 3

abbrev pub decreases-is_needed : goal.decreases-is_needed
decreases-is_needed l = 3 * l.levels + 2
