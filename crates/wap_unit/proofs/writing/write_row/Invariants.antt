use Rattle.std.proofs.Common.{◌≡◌, ◌++◌, take}
use Rattle.std.specs.List.{flat_map}
use Rattle.wap_unit.specs.Spelling.{pragma_spelling}
use Rattle.wap_unit.proofs.writing.write_row.Given as goal

abbrev pub invariant-loop-pragma : goal.invariant-loop-pragma
invariant-loop-pragma l =
    l.out ≡ l.initial.out ++ flat_map pragma_spelling (take l.pragma-index l.pragmas)
