use Rattle.std.proofs.Common.{◌≡◌}
use Rattle.wap_mend.proofs.names.Names.take_other.Given as goal

abbrev pub invariant-loop-number : goal.invariant-loop-number
invariant-loop-number l = l.self ≡ l.fn.self
