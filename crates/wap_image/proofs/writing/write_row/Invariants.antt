use Rattle.std.proofs.Common.{◌≡◌, ◌++◌, take}
use Rattle.std.specs.List.{flat_map}
use Rattle.wap_image.specs.Spelling.{variable_spelling}
use Rattle.wap_image.proofs.writing.write_row.Given as goal

abbrev pub invariant-loop-variable : goal.invariant-loop-variable
invariant-loop-variable l =
    l.out ≡ l.initial.out ++ flat_map variable_spelling (take l.variable-index l.variables)
