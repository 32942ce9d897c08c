use Rattle.std.proofs.Common.{◌≡◌, ◌++◌, take}
use Rattle.std.specs.List.{flat_map}
use Rattle.wap_unit.specs.Spelling.{name_spelling}
use Rattle.wap_unit.proofs.writing.write_names.Given as goal

abbrev pub invariant-loop-name : goal.invariant-loop-name
invariant-loop-name l = l.out ≡ l.initial.out ++ flat_map name_spelling (take l.name-index l.names)
