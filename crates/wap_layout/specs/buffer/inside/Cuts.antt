-- Lines in a buffer, by their lengths. This project's own.
use Rattle.std.specs.Prelude.{◌≡◌, ℕ, ◌+◌, ◌<◌, List, [], ◌∷◌, take, drop, length}
use Rattle.std.specs.Str.{chars, IsUtf8}
use Rattle.wap_base.specs.Ascii.{line_feed}

-- the lines of so many bytes each
abbrev pub lines_at : List ℕ → List ℕ → List (List ℕ)
lines_at bytes [] = []
lines_at bytes (n ∷ lengths) = chars (take n bytes) ∷ lines_at (drop (n + 1) bytes) lengths

-- the first so many bytes are a line, and a line feed follows them
pub record IsLine (n : ℕ) (bytes : List ℕ) : Type 0 where
  pub within : n < length bytes
  pub text : IsUtf8 (take n bytes)
  pub ended : drop n bytes ≡ line_feed ∷ drop (n + 1) bytes

-- the bytes are lines of these lengths, and nothing else
abbrev pub AreLines : List ℕ → List ℕ → Type 0
AreLines bytes [] = bytes ≡ []
AreLines bytes (n ∷ lengths) = IsLine n bytes × AreLines (drop (n + 1) bytes) lengths

-- the line is the first, and the rest and the lengths left are those of the lines after it
pub record IsNext (bytes lengths line rest left : List ℕ) : Type 0 where
  pub lines_are : lines_at bytes lengths ≡ chars line ∷ lines_at rest left
  pub others : AreLines rest left
