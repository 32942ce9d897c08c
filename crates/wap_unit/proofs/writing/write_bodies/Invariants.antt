use Rattle.std.proofs.Common.{◌≡◌, ◌++◌, take}
use Rattle.std.specs.List.{flat_map}
use Rattle.wap_unit.specs.Spelling.{function_spelling}
use Rattle.wap_unit.proofs.writing.write_bodies.Given as goal

abbrev pub invariant-loop-function : goal.invariant-loop-function
invariant-loop-function l =
    l.out ≡ l.initial.out ++ flat_map function_spelling (take l.function-index l.functions)
