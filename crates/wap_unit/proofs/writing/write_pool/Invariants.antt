use Rattle.std.proofs.Common.{◌≡◌, ◌++◌, take}
use Rattle.std.specs.List.{flat_map}
use Rattle.wap_unit.specs.Spelling.{constant_spelling}
use Rattle.wap_unit.proofs.writing.write_pool.Given as goal

abbrev pub invariant-loop-constant : goal.invariant-loop-constant
invariant-loop-constant l =
    l.out ≡ l.initial.out ++ flat_map constant_spelling (take l.constant-index l.constants)
