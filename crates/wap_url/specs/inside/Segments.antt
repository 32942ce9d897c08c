-- Where a path or a host may be cut. This project's own.
use Rattle.std.specs.Prelude.{◌≡◌, ℕ, ◌⊎◌, List, [], ◌∷◌, ◌++◌}
use Rattle.wap_base.specs.Ascii.{slash}

-- these segments, each with the slash after it
abbrev pub folder_of : List (List ℕ) → List ℕ
folder_of [] = []
folder_of (s ∷ segments) = s ++ slash ∷ folder_of segments

-- a list may be cut after this part, and before it: it is empty, or the separator stands there
abbrev pub EndsAt : ℕ → List ℕ → Type 0
EndsAt c part = (part ≡ []) ⊎ ((front : List ℕ) × (part ≡ front ++ c ∷ []))

abbrev pub BeginsAt : ℕ → List ℕ → Type 0
BeginsAt c part = (part ≡ []) ⊎ ((rest : List ℕ) × (part ≡ c ∷ rest))
