-- The lines of a flow by calculation. This project's own.
use Rattle.std.specs.Prelude.{◌≡◌, ℕ, zero, suc, ◌+◌, Bool, ◌&&◌, nat_lt, nat_le, if◌then◌else◌}
use Rattle.std.specs.Prelude.{List, [], ◌∷◌, ◌++◌, length, take, drop, map}
use Rattle.std.specs.List.{flat_map}
use Rattle.wap_base.specs.Ascii.{space}
use Rattle.wap_layout.specs.declared.flow.Flow.{Flow}
use Rattle.wap_layout.specs.declared.flow.Mode.{Mode}
use Rattle.wap_layout.specs.declared.flow.Mode.TheVariants.{Wrapped, Unwrapped, Preformatted}
use Rattle.wap_layout.specs.Blanks.{words_of, joined, unless_empty}
use Rattle.wap_layout.specs.Pieces.{Piece, pieces_of}
use Rattle.wap_layout.specs.Layout.{closed}

-- a word cut at the width, so many times at most
abbrev pub cut_at : ℕ → ℕ → List ℕ → List (List ℕ)
cut_at width zero word = word ∷ []
cut_at width (suc times) word =
    if nat_le (length word) width then word ∷ []
    else take width word ∷ cut_at width times (drop width word)

-- a word cut at the width, into as many parts as it needs
abbrev pub cut_word : ℕ → List ℕ → List (List ℕ)
cut_word width word = cut_at width (length word) word

-- The lines are these words in order, each whole or in its parts, with a space between any two on a
-- line.
abbrev pub HoldsInOrder : ℕ → List (List ℕ) → List (List ℕ) → Type 0
HoldsInOrder width words lines =
    (groups : List (List (List ℕ)))
    × (flat_map (λ group. group) groups ≡ flat_map (cut_word width) words)
    × (lines ≡ map joined groups)

-- a line of so many columns has room for one more word, of so many
abbrev pub has_room : ℕ → ℕ → ℕ → Bool
has_room width columns needed = nat_lt 0 columns && nat_le (columns + 1 + needed) width

-- the lines of words that go on after a line, as far as that is filled
abbrev pub fill : ℕ → List ℕ → List (List ℕ) → List (List ℕ)
fill width line [] = unless_empty line
fill width line (word ∷ words) =
    let room = has_room width (length line) (length word) in
    (if room then [] else unless_empty line)
    ++ fill width (if room then line ++ space ∷ word else word) words

-- the lines of words, where those that are too long are cut first
abbrev pub filled : ℕ → List (List ℕ) → List (List ℕ)
filled width words = fill width [] (flat_map (cut_word width) words)

-- the lines of a text by its mode
abbrev pub laid : ℕ → Mode → List ℕ → List (List ℕ)
laid width Wrapped text = filled width (words_of text)
laid width Unwrapped text = unless_empty (joined (words_of text))
laid width Preformatted text = unless_empty text

-- the lines of a piece
abbrev pub piece_lines : ℕ → Piece → List (List ℕ)
piece_lines width piece = closed piece.is_hard (laid width piece.mode piece.text)

-- the lines of a flow
abbrev pub lines_of : ℕ → List Flow → List (List ℕ)
lines_of width flow = flat_map (piece_lines width) (pieces_of flow)
