-- Texts as lists of characters: their beginning, when two are the same, and which of two comes
-- first. This project's own.
use Rattle.std.specs.Prelude.{ℕ, Bool, true, false, List, [], ◌∷◌, Option, Some, None, nat_eq}
use Rattle.std.specs.Prelude.{encode_utf8_all}
use Rattle.std.specs.List.{IsDistinct}
use Rattle.std.specs.List.Sorted.{IsStrictlySortedBy}
use Rattle.std.specs.Ordering.{nat_cmp}
use Rattle.std.specs.Cmp.Lexicographic.{pointwise, slice_cmp}
use Rattle.std.specs.declared.cmp.Ordering.{Ordering}

-- nothing is in it
abbrev pub is_empty : {A : Type 0} → List A → Bool
is_empty [] = true
is_empty (x ∷ xs) = false

-- what comes first, and what follows it
abbrev pub first_of : {A : Type 0} → List A → Option (A × List A)
first_of [] = None
first_of (x ∷ xs) = Some (x, xs)

abbrev pub is_same_text : List ℕ → List ℕ → Bool
is_same_text = pointwise nat_eq

-- by the numbers of the characters, the first that differs deciding
abbrev pub text_cmp : List ℕ → List ℕ → Ordering
text_cmp = slice_cmp nat_cmp

-- by the bytes of the texts' UTF-8
abbrev pub byte_cmp : List ℕ → List ℕ → Ordering
byte_cmp a b = slice_cmp nat_cmp (encode_utf8_all a) (encode_utf8_all b)

-- each text comes before all that follow it, by their bytes; so each stands once
abbrev pub AreAscending : List (List ℕ) → Type 0
AreAscending = IsStrictlySortedBy byte_cmp

-- no text stands twice
abbrev pub AreDistinct : List (List ℕ) → Type 0
AreDistinct = IsDistinct is_same_text
