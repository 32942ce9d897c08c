-- White space and parts of a text, by characters (WAP-194, "String").
use Rattle.std.specs.Prelude.{ℕ, Bool, false, ◌==◌, ◌||◌, ◌&&◌, if◌then◌else◌, List}
use Rattle.std.specs.Prelude.{[], ◌∷◌, length, take, drop}
use Rattle.std.specs.Int.{is_in_range}
use Rattle.std.specs.List.{prefix_len}
use Rattle.wap_base.specs.Ascii.{tab, carriage_return, space}

-- space, tab, line feed, vertical tab, form feed and carriage return
abbrev pub is_blank : ℕ → Bool
is_blank c = c == space || is_in_range tab carriage_return c

-- the text begins with white space
abbrev pub begins_blank : List ℕ → Bool
begins_blank [] = false
begins_blank (c ∷ s) = is_blank c

-- so many characters from a place on, as far as there are
abbrev pub part : List ℕ → ℕ → ℕ → List ℕ
part s start count = take count (drop start s)

-- each run of white space becomes one space, which stands for the last of the run
abbrev pub squeezed : List ℕ → List ℕ
squeezed [] = []
squeezed (c ∷ s) =
    if is_blank c then (if begins_blank s then squeezed s else space ∷ squeezed s) else
    c ∷ squeezed s

-- a text without the white space at its beginning
abbrev pub behind_blanks : List ℕ → List ℕ
behind_blanks s = drop (prefix_len is_blank s) s

-- a text without the white space at its end
abbrev pub before_blanks : List ℕ → List ℕ
before_blanks [] = []
before_blanks (c ∷ s) =
    if is_blank c && length (before_blanks s) == 0 then [] else c ∷ before_blanks s

-- a text without either
abbrev pub trimmed : List ℕ → List ℕ
trimmed s = before_blanks (behind_blanks s)
