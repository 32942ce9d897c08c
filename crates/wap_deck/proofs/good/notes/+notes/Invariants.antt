use Rattle.std.proofs.Common.{ℕ, ◌+◌, ◌*◌, ◌≤◌, List, length}
use Rattle.wap_tokens.specs.declared.markup.document.TheConstants.{LEVEL_LIMIT}
use Rattle.wap_deck.specs.good.Readers.{IsBehind}
use Rattle.wap_deck.specs.good.inside.Nodes.{item_at}
use Rattle.wap_deck.specs.good.inside.Notes.{AreMore}
use Rattle.wap_deck.proofs.GoodLemmas.Ending.{Closes}
use Rattle.wap_deck.proofs.good.notes.+notes.Given as goal

abbrev pub decreases-note_content : goal.decreases-note_content
decreases-note_content l = 4 * l.levels

abbrev pub decreases-note_node : goal.decreases-note_node
decreases-note_node l = 4 * l.levels + 1

abbrev pub decreases-note_item : goal.decreases-note_item
decreases-note_item l = 4 * l.levels + 2

abbrev pub decreases-note_kids : goal.decreases-note_kids
decreases-note_kids l = 4 * l.levels + 3

-- what is left has the end that all had
abbrev pub invariant-note_kids-loop-notes : goal.invariant-note_kids-loop-notes
invariant-note_kids-loop-notes l = record {
  exact : (table : List ℕ) (below : ℕ) → below ≤ LEVEL_LIMIT → (end : List ℕ)
      → Closes (item_at table below) l.bytes end → Closes (item_at table below) l.rest end;
  behind : IsBehind l.rest l.bytes;
  noted : AreMore l.bytes l.initial.notes.items l.notes.items;
}

abbrev pub decreases-note_kids-loop-notes : goal.decreases-note_kids-loop-notes
decreases-note_kids-loop-notes l = length l.rest
