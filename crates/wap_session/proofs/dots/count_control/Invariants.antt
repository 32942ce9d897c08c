use Rattle.std.proofs.Common.{◌≡◌, ◌+◌, length}
use Rattle.std.specs.List.{count_by}
use Rattle.wap_session.specs.inside.Dots.{may_be_control}
use Rattle.wap_session.proofs.dots.count_control.Given as goal

-- those that were counted, and those that are left
abbrev pub invariant-loop-rest : goal.invariant-loop-rest
invariant-loop-rest l =
    l.count + count_by may_be_control l.rest ≡ count_by may_be_control l.bytes

abbrev pub decreases-loop-rest : goal.decreases-loop-rest
decreases-loop-rest l = length l.rest
