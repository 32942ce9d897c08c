use Rattle.std.proofs.Common.{drop}
use Rattle.std.specs.List.{AllByRecursion}
use Rattle.wap_state.specs.page_urls.PageUrls.{IsPageEntry}
use Rattle.wap_state.proofs.history.keep_entries.Given as goal

-- it is left to know it of the entries that are left
abbrev pub invariant-loop-entry : goal.invariant-loop-entry
invariant-loop-entry l =
    AllByRecursion IsPageEntry (drop l.entry-index l.entries)
    → AllByRecursion IsPageEntry l.entries
