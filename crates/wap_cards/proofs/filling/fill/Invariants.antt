use Rattle.std.proofs.Common.{◌≡◌, ◌++◌}
use Rattle.wap_vars.specs.Filling.{filled}
use Rattle.wap_cards.proofs.filling.fill.Given as goal

abbrev pub invariant-loop-bit : goal.invariant-loop-bit
invariant-loop-bit l =
    l.whole ++ filled l.vars l.bit-iterator ≡ filled l.vars l.initial.bit-iterator
