-- A path as its segments and a host as its labels (RFC 2396, sections 3.3 and 3.2.2).
use Rattle.std.specs.Prelude.{◌≡◌, ℕ, ◌-◌, List, [], ◌∷◌, ◌++◌, length, take}
use Rattle.std.specs.List.{slice_split, join_with_byte}
use Rattle.wap_url.specs.Characters.{is_slash, is_dot}
use Rattle.wap_base.specs.Ascii.{slash}

-- what stands between the slashes of a path
abbrev pub segments : List ℕ → List (List ℕ)
segments path = slice_split is_slash path

-- the path of these segments
abbrev pub path_of : List (List ℕ) → List ℕ
path_of segments = join_with_byte slash segments

-- what stands between the dots of a host
abbrev pub labels : List ℕ → List (List ℕ)
labels host = slice_split is_dot host

-- a list without its last one
abbrev pub all_but_last : {X : Type 0} → List X → List X
all_but_last xs = take (length xs - 1) xs

-- the last segment, or an empty one where there is none
abbrev pub last_segment : List (List ℕ) → List ℕ
last_segment [] = []
last_segment (s ∷ []) = s
last_segment (s ∷ t ∷ more) = last_segment (t ∷ more)

-- the list begins with the part
abbrev pub IsPrefix : {X : Type 0} → List X → List X → Type 0
IsPrefix {X} part whole = (rest : List X) × (whole ≡ part ++ rest)

-- the list ends with the part
abbrev pub IsSuffix : {X : Type 0} → List X → List X → Type 0
IsSuffix {X} part whole = (lead : List X) × (whole ≡ lead ++ part)
