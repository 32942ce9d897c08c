use Rattle.wap_base.specs.Numbers.{mb_spelling}
use Rattle.wap_base.proofs.NumberSpelling.{Continues}
use Rattle.wap_base.proofs.number.write_mb.Given as goal

-- the groups written stand after those of the rest, for which there is room
abbrev pub invariant-loop-rest : goal.invariant-loop-rest
invariant-loop-rest l = Continues l.start l.rest l.groups (mb_spelling l.number)

abbrev pub decreases-loop-rest : goal.decreases-loop-rest
decreases-loop-rest l = l.rest
