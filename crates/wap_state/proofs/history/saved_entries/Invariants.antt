use Rattle.std.proofs.Common.{◌≡◌, map, take}
use Rattle.wap_state.specs.Saved.{saved_entry}
use Rattle.wap_state.proofs.history.saved_entries.Given as goal

abbrev pub invariant-loop-entry : goal.invariant-loop-entry
invariant-loop-entry l = l.saved ≡ map saved_entry (take l.entry-index l.entries)
