use Rattle.std.proofs.Common.{◌≡◌, ◌++◌, take}
use Rattle.std.specs.List.{flat_map}
use Rattle.wap_cli.specs.prepare.Reports.{entry_line}
use Rattle.wap_cli.proofs.prepare.report.add_entries.Given as goal

-- the lines of the first entries were appended
abbrev pub invariant-loop-entry : goal.invariant-loop-entry
invariant-loop-entry l =
    l.text.items ≡ l.fn.text.items ++ flat_map entry_line (take l.entry-index l.entries)
