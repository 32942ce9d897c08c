-- The winners of all pushes and the entries of their inbox, by calculation. This project's own.
use Rattle.std.specs.Prelude.{◌≡◌, ℕ, List, [], ◌∷◌}
use Rattle.std.specs.List.{filter_map}
use Rattle.std.specs.BTreeSet.{insert_key}
use Rattle.wap_base.specs.Texts.{text_cmp}
use Rattle.wap_push.specs.declared.indication.Indication.{Indication}
use Rattle.wap_push.specs.Inbox.{winner_of, inbox_of}

-- the identifiers of pushes, each once, in ascending order
abbrev pub ids_of : List Indication → List (List ℕ)
ids_of [] = []
ids_of (pushed ∷ pushes) = insert_key text_cmp (ids_of pushes) pushed.id

-- the winner of each, in their order
abbrev pub winners_of : List Indication → List Indication
winners_of pushes = filter_map (winner_of pushes) (ids_of pushes)

-- the entries of the inbox after these pushes
abbrev pub entries_of : List Indication → List Indication
entries_of pushes = inbox_of (winners_of pushes)

-- pushes that have the same winners
abbrev pub Alike : List Indication → List Indication → Type 0
Alike one other = winners_of one ≡ winners_of other
