use Rattle.std.proofs.Common.{◌≡◌, ◌++◌, take}
use Rattle.std.specs.List.{flat_map}
use Rattle.wap_image.specs.Spelling.{entry_spelling}
use Rattle.wap_image.proofs.writing.write_list.Given as goal

abbrev pub invariant-loop-entry : goal.invariant-loop-entry
invariant-loop-entry l =
    l.out ≡ l.initial.out ++ flat_map entry_spelling (take l.entry-index l.entries)
