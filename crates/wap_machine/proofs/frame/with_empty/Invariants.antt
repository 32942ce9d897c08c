use Rattle.std.proofs.Common.{◌≡◌, [], ◌++◌, replicate}
use Rattle.wap_value.specs.declared.value.Value.TheVariants.{Str}
use Rattle.wap_machine.proofs.frame.with_empty.Given as goal

abbrev pub invariant-loop : goal.invariant-loop
invariant-loop l = l.variables.items ≡ l.fn.arguments.items ++ replicate l.counter (Str [])
