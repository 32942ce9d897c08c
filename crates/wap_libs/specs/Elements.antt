-- A text as a list of elements (WAP-194, "String"): what stands between the occurrences of one
-- character.
use Rattle.std.specs.Prelude.{ℕ, ◌-◌, ◌==◌, if◌then◌else◌, min, List, [], length}
use Rattle.std.specs.Prelude.{slice_index_or, slice_set, insert, remove}
use Rattle.std.specs.List.{slice_split, join_with_byte}

-- the elements; the empty text has one, which is empty
abbrev pub elements : ℕ → List ℕ → List (List ℕ)
elements separator s = slice_split (λ c. c == separator) s

-- these elements with the separator between each two
abbrev pub joined : ℕ → List (List ℕ) → List ℕ
joined separator es = join_with_byte separator es

-- a place that is put among the elements
abbrev pub within : List (List ℕ) → ℕ → ℕ
within es k = min k (length es - 1)

-- the element at a place
abbrev pub element_at : ℕ → ℕ → List ℕ → List ℕ
element_at separator k s = let es = elements separator s in slice_index_or es (within es k) []

-- the text without the element at a place
abbrev pub without_element : ℕ → ℕ → List ℕ → List ℕ
without_element separator k s =
    let es = elements separator s in
    joined separator (remove es (within es k))

-- the text with a new element in place of the one at a place
abbrev pub with_element : ℕ → ℕ → List ℕ → List ℕ → List ℕ
with_element separator k new s =
    let es = elements separator s in
    joined separator (slice_set es (within es k) new)

-- the new element stands before the one at the place, or at the end; the empty text becomes the new
-- element
abbrev pub with_element_before : ℕ → ℕ → List ℕ → List ℕ → List ℕ
with_element_before separator k new s =
    let es = elements separator s in
    if length s == 0 then new else joined separator (insert es (min k (length es)) new)
