use Rattle.std.proofs.Common.{◌≡◌, take}
use Rattle.wap_vars.specs.Filling.{filled}
use Rattle.wap_vars.proofs.vars.Vars.fill.Given as goal

abbrev pub invariant-loop-part : goal.invariant-loop-part
invariant-loop-part l = l.filled ≡ filled l.self (take l.part-index l.parts)
