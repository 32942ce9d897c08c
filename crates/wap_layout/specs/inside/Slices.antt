-- A text's UTF-8, cut at a blank, at a line feed or after a line. This project's own.
use Rattle.std.specs.Prelude.{◌≡◌, ℕ, ◌<◌, ◌≤◌, List, [], ◌++◌, length}
use Rattle.std.specs.Prelude.{Bool, ◌||◌, nat_le, true, false, ◌∷◌}
use Rattle.std.specs.List.{flat_map, slice_split}
use Rattle.std.specs.Str.{chars, IsAscii, IsUtf8}
use Rattle.wap_base.specs.Ascii.{space}
use Rattle.wap_layout.specs.Blanks.{is_blank, is_line_feed, words_of, unless_empty}
use Rattle.wap_layout.specs.Pieces.{kept}
use Rattle.wap_layout.specs.Calculation.{cut_word, fill}
use Rattle.wap_layout.specs.declared.flow.Mode.TheVariants.{Preformatted}

-- a blank's byte, or one of a character past US-ASCII
abbrev pub ends_word : ℕ → Bool
ends_word b = is_blank b || nat_le 128 b

-- what stands before the blank is a word, unless it is empty, and the other words follow the blank
pub record IsCutAtBlank (bytes word rest : List ℕ) : Type 0 where
  pub words_are : words_of (chars bytes) ≡ unless_empty (chars word) ++ words_of (chars rest)
  pub rest_text : IsUtf8 rest
  pub shorter : length rest < length bytes

-- what stands before the first line feed is the first line, and the other lines follow the feed
pub record IsCutAtFeed (bytes line rest : List ℕ) : Type 0 where
  pub lines_are : (hard : Bool)
      → kept (slice_split is_line_feed (chars bytes)) hard
      ≡ record { mode = Preformatted; text = chars line; is_hard = true }
      ∷ kept (slice_split is_line_feed (chars rest)) hard
  pub rest_text : IsUtf8 rest
  pub shorter : length rest < length bytes

-- The first word is of US-ASCII, and follows no blank; the other words follow the space after it.
-- Where nothing is left, that space may be missing.
pub record IsPlainWord (bytes word rest : List ℕ) : Type 0 where
  pub ascii : IsAscii word
  pub some : 1 ≤ length word
  pub tail : List ℕ
  pub divides : bytes ≡ word ++ tail
  pub tail_text : IsUtf8 tail
  pub spaced : 1 ≤ length rest → tail ≡ space ∷ rest
  pub words_are : words_of (chars bytes) ≡ word ∷ words_of (chars rest)
  pub rest_text : IsUtf8 rest
  pub shorter : length rest < length bytes

-- the lines of a text's words that go on after a line
abbrev pub fill_text : ℕ → List ℕ → List ℕ → List (List ℕ)
fill_text width line bytes = fill width line (flat_map (cut_word width) (words_of (chars bytes)))

-- The words at the start of the text are the first line, all of it or as far as they go, and the
-- others follow them.
pub record IsFirstLine (width : ℕ) (bytes line rest : List ℕ) (is_whole : Bool) : Type 0 where
  pub whole : is_whole ≡ true
      → fill_text width [] bytes ≡ chars line ∷ fill_text width [] rest
  pub begun : is_whole ≡ false → fill_text width [] bytes ≡ fill_text width (chars line) rest
  pub columns : length (chars line) ≡ length line
  pub rest_text : IsUtf8 rest
  pub shorter : length rest < length bytes
