use Rattle.std.proofs.Common.{◌≡◌, ◌≤◌, ◌+◌, ◌++◌, length, true}
use Rattle.std.specs.List.{AllByRecursion}
use Rattle.wap_image.specs.Items.{is_entry_text}
use Rattle.wap_state.specs.Saved.{entries_of}
use Rattle.wap_state.proofs.saved.history_of.Given as goal

-- the entries that were made, and those that are left, for which there is room
abbrev pub invariant-loop-text : goal.invariant-loop-text
invariant-loop-text l = record {
  entries : l.history ++ entries_of l.text-iterator.rest.items ≡ entries_of l.fn.parts;
  room : length l.history + length l.text-iterator.rest.items ≤ l.fn.limit;
  urls : AllByRecursion (λ part. is_entry_text part.0 ≡ true) l.text-iterator.rest.items;
}
