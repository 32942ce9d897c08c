use Rattle.std.proofs.Common.{drop}
use Rattle.std.specs.List.{AllByRecursion}
use Rattle.wap_image.specs.inside.Fitting.{OfEntry}
use Rattle.wap_image.proofs.knowing.know_entries.Given as goal

-- it is left to know it of the entries that are left
abbrev pub invariant-loop-entry : goal.invariant-loop-entry
invariant-loop-entry l =
    AllByRecursion OfEntry (drop l.entry-index l.entries) → AllByRecursion OfEntry l.entries
