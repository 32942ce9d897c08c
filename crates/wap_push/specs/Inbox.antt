-- The inbox: of the indications that were pushed, those that count (this project's own; that a
-- later one stands for an earlier one of the same identifier is WAP-167's, section 5.2).
use Rattle.std.specs.Prelude.{◌≡◌, ℕ, zero, suc, ◌≤◌, ◌<◌, Bool, true, false, nat_le, if◌then◌else◌}
use Rattle.std.specs.Prelude.{map, List, [], ◌∷◌, ◌++◌, find, slice_get, Option, Some, None}
use Rattle.std.specs.List.{filter, AllByRecursion}
use Rattle.std.specs.List.Sorted.{IsStrictlySortedBy}
use Rattle.wap_base.specs.Texts.{is_same_text, text_cmp}
use Rattle.wap_push.specs.declared.indication.Action.{Action}
use Rattle.wap_push.specs.declared.indication.Action.TheVariants.{Quiet, Delete}
use Rattle.wap_push.specs.declared.indication.Indication.{Indication}

-- ---- which indication counts

-- whether an indication has this identifier
abbrev pub is_of : List ℕ → Indication → Bool
is_of id pushed = is_same_text id pushed.id

-- of an indication and one pushed after it, that which was made later; of two made at one time the
-- second
abbrev pub later : Indication → Option Indication → Indication
later first None = first
later first (Some second) = if nat_le first.created second.created then second else first

-- of the indications that were made last, the one pushed last
abbrev pub latest : List Indication → Option Indication
latest [] = None
latest (first ∷ pushes) = Some (later first (latest pushes))

-- the winner of an identifier: the one of its indications that was made last, and of several the
-- last that was pushed
abbrev pub winner_of : List Indication → List ℕ → Option Indication
winner_of pushes id = latest (filter (is_of id) pushes)

-- the same in words of a list: of the pushes of this identifier none before it was made later, and
-- each after it was made earlier
pub record IsWinner (pushes : List Indication) (id : List ℕ) (winner : Indication) : Type 0 where
  pub before : List Indication
  pub after : List Indication
  pub spelled : pushes ≡ before ++ winner ∷ after
  pub own : is_of id winner ≡ true
  pub not_later : AllByRecursion (λ (push : Indication).
      is_of id push ≡ true → push.created ≤ winner.created) before
  pub earlier : AllByRecursion (λ (push : Indication).
      is_of id push ≡ true → push.created < winner.created) after

-- these are the winners of the identifiers of all pushes, in ascending order of identifiers
pub record HaveWinners (pushes winners : List Indication) : Type 0 where
  pub ordered : IsStrictlySortedBy text_cmp (map (λ (winner : Indication). winner.id) winners)
  pub each : (id : List ℕ) → find (is_of id) winners ≡ winner_of pushes id

-- ---- what an inbox has, and what is shown when it comes

-- whether a winner that is to be met like this is in the inbox: all but deletes
abbrev pub stays : Action → Bool
stays Delete = false
stays _ = true

-- whether an inbox has a winner
abbrev pub is_kept : Indication → Bool
is_kept winner = stays winner.action

-- the inbox of winners: those that stay, in their order
abbrev pub inbox_of : List Indication → List Indication
inbox_of winners = filter is_kept winners

-- the entry of a number, the first being 1
abbrev pub entry_at : List Indication → ℕ → Option Indication
entry_at entries zero = None
entry_at entries (suc place) = slice_get entries place

-- whether an indication that is to be met like this is shown when it comes
abbrev pub alerts : Action → Bool
alerts Quiet = false
alerts Delete = false
alerts _ = true

-- a push is shown when it comes: it is the winner of its identifier, and is to be met like this
pub record IsAlert (pushes : List Indication) (pushed : Indication) : Type 0 where
  pub wins : winner_of pushes pushed.id ≡ Some pushed
  pub shown : alerts pushed.action ≡ true
