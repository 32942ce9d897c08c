-- Which words of a piece stand on which line, which is this project's own. One column is one
-- character.
use Rattle.std.specs.Prelude.{◌≡◌, ◌≢◌, ℕ, ◌≤◌, ◌<◌, Bool, true, false, List, []}
use Rattle.std.specs.Prelude.{◌∷◌, ◌++◌, length, take, drop, All}
use Rattle.wap_layout.specs.declared.flow.Mode.{Mode}
use Rattle.wap_layout.specs.declared.flow.Mode.TheVariants.{Wrapped, Unwrapped, Preformatted}
use Rattle.wap_layout.specs.Blanks.{words_of, joined, unless_empty}
use Rattle.wap_layout.specs.Pieces.{Piece}

-- The prefix is the longest of the words that fits on a line: with the next word it doesn't fit.
pub record IsLongestFront (width : ℕ) (words front rest : List (List ℕ)) : Type 0 where
  pub some : front ≢ []
  pub divides : words ≡ front ++ rest
  pub fits : length (joined front) ≤ width
  pub longest : (next : List ℕ) (others : List (List ℕ)) → rest ≡ next ∷ others
      → width < length (joined (front ++ next ∷ []))

-- The words stand on these lines: on each the longest prefix of those that remain, but a word
-- longer than the width begins a line and is cut at the width, and its last part goes on as a word.
pub data IsFilled (width : ℕ) : List (List ℕ) → List (List ℕ) → Type 0 where
  done : IsFilled width [] []
  line : {words lines : List (List ℕ)} (front rest : List (List ℕ))
      → IsLongestFront width words front rest → IsFilled width rest lines
      → IsFilled width words (joined front ∷ lines)
  cut : {word : List ℕ} {rest lines : List (List ℕ)} → width < length word
      → IsFilled width (drop width word ∷ rest) lines
      → IsFilled width (word ∷ rest) (take width word ∷ lines)

-- no line is longer than the width
abbrev pub AllFit : ℕ → List (List ℕ) → Type 0
AllFit width lines = All (λ text. length text ≤ width) lines

-- The words of a text, or its characters, stand on these lines.
abbrev pub IsLaid : ℕ → Mode → List ℕ → List (List ℕ) → Type 0
IsLaid width Wrapped text lines = IsFilled width (words_of text) lines
IsLaid width Unwrapped text lines = lines ≡ unless_empty (joined (words_of text))
IsLaid width Preformatted text lines = lines ≡ unless_empty text

-- a piece without lines gives an empty one where a hard break ends it
abbrev pub closed : Bool → List (List ℕ) → List (List ℕ)
closed false lines = lines
closed true [] = [] ∷ []
closed true (first ∷ lines) = first ∷ lines

-- The lines are those of the pieces, one piece after another.
abbrev pub AreLaid : ℕ → List Piece → List (List ℕ) → Type 0
AreLaid width [] lines = lines ≡ []
AreLaid width (piece ∷ pieces) lines =
    (own : List (List ℕ)) × (others : List (List ℕ)) × (lines ≡ closed piece.is_hard own ++ others)
    × IsLaid width piece.mode piece.text own × AreLaid width pieces others
