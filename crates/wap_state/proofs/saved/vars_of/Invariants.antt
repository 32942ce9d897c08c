use Rattle.std.proofs.Common.{◌≡◌, ◌++◌}
use Rattle.wap_state.proofs.saved.vars_of.Given as goal

-- the variables that are set, and those that are left
abbrev pub invariant-loop-name : goal.invariant-loop-name
invariant-loop-name l = l.vars ++ l.name-iterator.rest.items ≡ l.fn.pairs
