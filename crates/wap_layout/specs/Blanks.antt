-- Words, and the blanks between them (WAP-191, section 11.8.1).
use Rattle.std.specs.Prelude.{ℕ, Bool, not, ◌||◌, ◌==◌, List, [], ◌∷◌, filter}
use Rattle.std.specs.List.{slice_split, join_with_byte}
use Rattle.wap_base.specs.Texts.{is_empty}
use Rattle.wap_base.specs.Ascii.{space, tab, carriage_return, line_feed}

-- a space, a tab, a carriage return or a line feed, and no other character
abbrev pub is_blank : ℕ → Bool
is_blank c = (c == space || c == tab) || (c == carriage_return || c == line_feed)

-- a line feed, which ends a line of preformatted text
abbrev pub is_line_feed : ℕ → Bool
is_line_feed c = c == line_feed

-- the text alone, or nothing where it is empty
abbrev pub unless_empty : List ℕ → List (List ℕ)
unless_empty [] = []
unless_empty (c ∷ text) = (c ∷ text) ∷ []

-- the words of a text: what stands between runs of blanks
abbrev pub words_of : List ℕ → List (List ℕ)
words_of text = filter (λ word. not (is_empty word)) (slice_split is_blank text)

-- words on one line, a space between any two
abbrev pub joined : List (List ℕ) → List ℕ
joined words = join_with_byte space words

-- what of a text is no blank
abbrev pub visible : List ℕ → List ℕ
visible text = filter (λ c. not (is_blank c)) text
