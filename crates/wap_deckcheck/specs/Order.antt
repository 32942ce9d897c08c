-- The order of the document, on paths: parents come before their children, and siblings by their
-- numbers. This project's own.
use Rattle.std.specs.Prelude.{◌≡◌, ℕ, ◌<◌, ◌⊎◌, List, [], ◌∷◌, Option, Some, None}
use Rattle.std.specs.List.{filter_map}
use Rattle.wap_tokens.specs.declared.markup.deck.Deck.{Deck}
use Rattle.wap_deckcheck.specs.declared.fault.DeckFault.{DeckFault}
use Rattle.wap_deckcheck.specs.declared.fault.DeckFault.TheVariants as fault
use Rattle.wap_deckcheck.specs.Faults.{faults}

-- one path is another, or comes before it
abbrev pub IsUpTo : List ℕ → List ℕ → Type 0
IsUpTo [] other = Unit {0}
IsUpTo (number ∷ path) [] = ⊥
IsUpTo (number ∷ path) (next ∷ other) = (number < next) ⊎ ((number ≡ next) × IsUpTo path other)

-- the same, for each of some others
abbrev pub IsUpToAll : List ℕ → List (List ℕ) → Type 0
IsUpToAll path [] = Unit {0}
IsUpToAll path (next ∷ others) = IsUpTo path next × IsUpToAll path others

-- no path comes before an earlier one
abbrev pub Ascend : List (List ℕ) → Type 0
Ascend [] = Unit {0}
Ascend (path ∷ paths) = IsUpToAll path paths × Ascend paths

-- where a fault is, if it has a place
abbrev pub path_of : DeckFault → Option (List ℕ)
path_of (fault.Child path) = Some path
path_of (fault.Attr path) = Some path
path_of (fault.Missing path) = Some path
path_of (fault.Value path) = Some path
path_of (fault.DuplicateId path) = Some path
path_of fault.NoCard = None
path_of fault.NoMemory = None

-- a deck's faults come in the order of the document
abbrev pub FaultsAscend : Deck → Type 0
FaultsAscend deck = Ascend (filter_map path_of (faults deck))
