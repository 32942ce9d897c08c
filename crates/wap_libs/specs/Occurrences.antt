-- Where a text occurs in another (WAP-194, "find" and "replace").
use Rattle.std.specs.Prelude.{ℕ, zero, suc, ◌+◌, nat_eq, if◌then◌else◌, List, [], ◌∷◌, length}
use Rattle.std.specs.Prelude.{take, drop, Option, Some, None, option_map}
use Rattle.std.specs.List.{starts_with, join_by}

-- the first place of a text that isn't empty
abbrev pub place_of : List ℕ → List ℕ → Option ℕ
place_of t [] = None
place_of t (c ∷ s) =
    if starts_with nat_eq (c ∷ s) t then Some 0 else option_map (λ k. suc k) (place_of t s)

-- a text up to a place, and the pieces of what stands after so many characters more; with no place
-- it is one piece
abbrev pub cut_at : (List ℕ → List (List ℕ)) → ℕ → List ℕ → Option ℕ → List (List ℕ)
cut_at pieces count s None = s ∷ []
cut_at pieces count s (Some k) = take k s ∷ pieces (drop (k + count) s)

-- the pieces before, between and after the occurrences of a text that isn't empty: each is the
-- first one after the end of the one before. So many are cut at most.
abbrev pub pieces : ℕ → List ℕ → List ℕ → List (List ℕ)
pieces zero t s = s ∷ []
pieces (suc most) t s = cut_at (pieces most t) (length t) s (place_of t s)

-- a text with `new` in place of each occurrence of `old`, of which there are no more than
-- characters
abbrev pub replaced : List ℕ → List ℕ → List ℕ → List ℕ
replaced old new s = join_by (λ piece. piece) new (pieces (length s) old s)
