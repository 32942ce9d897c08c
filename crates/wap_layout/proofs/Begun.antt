-- A text's first line, as a slice of it.
use Rattle.std.proofs.Common.{◌≡◌, ℕ, ◌+◌, ◌<◌, ◌≤◌, List, [], ◌∷◌, ◌++◌, length, take, drop}
use Rattle.std.proofs.Common.{get_or, Some, None, refl, ap, sym, ◌∙◌, subst, append_assoc, arith}
use Rattle.std.specs.Prelude.{Bool, true, false, ◌==◌}
use Rattle.std.specs.List.{position}
use Rattle.std.specs.Str.{chars, IsUtf8, IsAscii, IsCharBoundary}
use Rattle.std.proofs.lemmas.Bool.Decides.{nat_tests}
use Rattle.std.proofs.lemmas.List.{append-nil, length-append, length-take-le, take-append-drop}
use Rattle.std.proofs.lemmas.List.{drop_more, take_at}
use Rattle.std.proofs.lemmas.Str.{IsUtf8-nil, chars-nil, chars-IsAscii, IsAscii-append, IsUtf8-drop}
use Rattle.std.proofs.lemmas.Str.{IsCharBoundary-at_seam}
use Rattle.std.proofs.lemmas.Str.Ascii.{IsAscii-cons}
use Rattle.wap_base.proofs.Choices.{nil_of}
use Rattle.wap_layout.specs.Blanks.{words_of, unless_empty}
use Rattle.wap_layout.specs.Calculation.{fill, filled}
use Rattle.wap_layout.specs.inside.Slices.{IsCutAtBlank, IsPlainWord, IsFirstLine, ends_word}
use Rattle.wap_layout.specs.inside.Slices.{fill_text}
use Rattle.wap_layout.proofs.Cutting.{cut_word-short}
use Rattle.wap_layout.proofs.Filling.{parts_of, fill-room, fill-before, some_alone}
use Rattle.wap_layout.proofs.Plain.{plain_cut, plain_whole, ascii_whole}

-- a text is not found to be empty
pub is_some : (bytes : List ℕ) → false ≡ (length bytes == 0) → 1 ≤ length bytes
is_some bytes e = grind (arith, nat_tests)

-- or it is
pub is_none : (bytes : List ℕ) → true ≡ (length bytes == 0) → length bytes ≡ 0
is_none bytes e = grind (arith, nat_tests)

-- ---- a word

-- a space is US-ASCII
pub space_low : (bytes : List ℕ) (at : ℕ) → get_or bytes at 0 ≡ 32 → get_or bytes at 0 < 128
space_low bytes at is = omega (arith, is)

-- a text that is cut at the space after its first word
pub space_cut : (bytes : List ℕ) (at : ℕ) → IsUtf8 bytes → position ends_word bytes ≡ Some at
    → get_or bytes at 0 ≡ 32 → 1 ≤ at → IsPlainWord bytes (take at bytes) (drop (at + 1) bytes)
space_cut bytes at text found is some =
    let plain = plain_cut bytes at text found (space_low bytes at is) in
    let long : length (take at bytes) ≡ at =
    length-take-le at bytes (omega (arith, plain.within)) in
    record {
      ascii = plain.ascii;
      some = omega (arith, long, some);
      tail = drop at bytes;
      divides = sym (take-append-drop at bytes);
      tail_text = IsUtf8-drop bytes at text plain.before;
      spaced = λ left. drop_more bytes at 0 plain.within
          ∙ ap (λ c. c ∷ drop (at + 1) bytes) is;
      words_are = plain.cut.words_are
          ∙ ap (λ w. unless_empty w ++ words_of (chars (drop (at + 1) bytes)))
          (chars-IsAscii (take at bytes) plain.ascii)
          ∙ ap (λ ws. ws ++ words_of (chars (drop (at + 1) bytes)))
          (some_alone (take at bytes) (omega (arith, long, some)));
      rest_text = plain.cut.rest_text;
      shorter = plain.cut.shorter;
    }

-- no text has no words
pub no_words : (bytes : List ℕ) → bytes ≡ [] → words_of (chars bytes) ≡ []
no_words bytes none = ap (λ bs. words_of (chars bs)) none ∙ ap words_of chars-nil

-- a text without a blank is cut at its end
pub whole_cut : (bytes : List ℕ) → words_of (chars bytes) ≡ unless_empty (chars bytes)
    → 1 ≤ length bytes → IsCutAtBlank bytes bytes []
whole_cut bytes is some = record {
  words_are = is ∙ sym (ap (λ ws. unless_empty (chars bytes) ++ ws) (no_words [] refl)
      ∙ append-nil (unless_empty (chars bytes)));
  rest_text = IsUtf8-nil;
  shorter = some;
}

-- a text that is one word
pub whole_word : (bytes : List ℕ) → position ends_word bytes ≡ None → 1 ≤ length bytes
    → IsPlainWord bytes bytes []
whole_word bytes none some = record {
  ascii = ascii_whole bytes none;
  some = some;
  tail = [];
  divides = sym (append-nil bytes);
  tail_text = IsUtf8-nil;
  spaced = λ left. absurd (omega arith);
  words_are = plain_whole bytes none
      ∙ ap unless_empty (chars-IsAscii bytes (ascii_whole bytes none))
      ∙ some_alone bytes some ∙ ap (λ ws. bytes ∷ ws) (sym (no_words [] refl));
  rest_text = IsUtf8-nil;
  shorter = some;
}

-- ---- a line

-- the line so far is of whole words, a space follows it, and then what is left of the text
pub record IsBegun (width : ℕ) (bytes line rest : List ℕ) : Type 0 where
  pub follows : 1 ≤ length rest → bytes ≡ line ++ 32 ∷ rest
  pub ascii : IsAscii line
  pub some : 1 ≤ length line
  pub fits : length line ≤ width
  pub lines_are : filled width (words_of (chars bytes)) ≡ fill_text width line rest
  pub rest_text : IsUtf8 rest
  pub shorter : length rest < length bytes

-- the text begins with the line and the next word
with_word : (width : ℕ) (bytes line rest word after : List ℕ) → IsBegun width bytes line rest
    → (w : IsPlainWord rest word after) → bytes ≡ (line ++ 32 ∷ word) ++ w.tail
with_word width bytes line rest word after b w =
    b.follows (omega (arith, w.shorter)) ∙ ap (λ t. line ++ 32 ∷ t) w.divides
    ∙ sym (append_assoc line (32 ∷ word) w.tail)

-- that is the slice of the text up to the word's end
pub slice_of : (width : ℕ) (bytes line rest word after : List ℕ) → IsBegun width bytes line rest
    → IsPlainWord rest word after
    → take (length line + 1 + length word) bytes ≡ line ++ 32 ∷ word
slice_of width bytes line rest word after b w =
    ap (take (length line + 1 + length word)) (with_word width bytes line rest word after b w)
    ∙ take_at (line ++ 32 ∷ word) w.tail (length line + 1 + length word)
    (omega (arith, length-append line (32 ∷ word)))

-- where that slice ends, the text may be cut
pub slice_end : (width : ℕ) (bytes line rest word after : List ℕ) → IsBegun width bytes line rest
    → IsPlainWord rest word after → IsCharBoundary bytes (length line + 1 + length word)
slice_end width bytes line rest word after b w =
    let e : length (line ++ 32 ∷ word) ≡ length line + 1 + length word =
    omega (arith, length-append line (32 ∷ word)) in
    subst (IsCharBoundary bytes) e
    (IsCharBoundary-at_seam bytes (line ++ 32 ∷ word) w.tail
    (with_word width bytes line rest word after b w) w.tail_text)

-- the next word fits
pub begun-more : (width : ℕ) (bytes line rest word after next : List ℕ)
    → IsBegun width bytes line rest → IsPlainWord rest word after
    → length line + 1 + length word ≤ width → next ≡ line ++ 32 ∷ word
    → IsBegun width bytes next after
begun-more width bytes line rest word after next b w fits is =
    let long : length next ≡ length line + 1 + length word =
    omega (arith, ap length is, length-append line (32 ∷ word)) in
    let more = parts_of width (words_of (chars after)) in
    record {
      follows = λ some. with_word width bytes line rest word after b w
          ∙ ap (λ t. (line ++ 32 ∷ word) ++ t) (w.spaced some)
          ∙ ap (λ l. l ++ 32 ∷ after) (sym is);
      ascii = subst IsAscii (sym is) (IsAscii-append line (32 ∷ word) b.ascii
          (IsAscii-cons 32 word (omega arith) w.ascii));
      some = omega (arith, long);
      fits = omega (arith, long, fits);
      lines_are = b.lines_are ∙ ap (λ ws. fill width line (parts_of width ws)) w.words_are
          ∙ ap (λ parts. fill width line (parts ++ more))
          (cut_word-short width word (omega (arith, fits)))
          ∙ fill-room width line word more b.some fits ∙ ap (λ l. fill width l more) (sym is);
      rest_text = w.rest_text;
      shorter = omega (arith, b.shorter, w.shorter);
    }

-- the next word doesn't fit
pub line_before : (width : ℕ) (bytes line rest word after : List ℕ) → 1 ≤ width
    → IsBegun width bytes line rest → IsPlainWord rest word after
    → width < length line + 1 + length word → IsFirstLine width bytes line rest true
line_before width bytes line rest word after one b w over = record {
  whole = λ yes. b.lines_are ∙ ap (λ ws. fill width line (parts_of width ws)) w.words_are
      ∙ fill-before width line word (parts_of width (words_of (chars after))) one b.some over
      ∙ ap (λ ws. line ∷ filled width ws) (sym w.words_are)
      ∙ ap (λ l. l ∷ fill_text width [] rest) (sym (chars-IsAscii line b.ascii));
  begun = λ no. cc;
  columns = ap length (chars-IsAscii line b.ascii);
  rest_text = b.rest_text;
  shorter = b.shorter;
}

-- no plain word follows, or none at all
pub last_line : (width : ℕ) (bytes line rest : List ℕ) (none : Bool)
    → IsBegun width bytes line rest → none ≡ (length rest == 0)
    → IsFirstLine width bytes line rest none
last_line width bytes line rest true b is =
    let left = no_words rest (nil_of rest (is_none rest is)) in
    record {
      whole = λ yes. b.lines_are ∙ ap (λ ws. fill width line (parts_of width ws)) left
          ∙ some_alone line b.some ∙ ap (λ ws. line ∷ filled width ws) (sym left)
          ∙ ap (λ l. l ∷ fill_text width [] rest) (sym (chars-IsAscii line b.ascii));
      begun = λ no. cc;
      columns = ap length (chars-IsAscii line b.ascii);
      rest_text = b.rest_text;
      shorter = b.shorter;
    }
last_line width bytes line rest false b is = record {
  whole = λ yes. cc;
  begun = λ no. b.lines_are
      ∙ ap (λ l. fill_text width l rest) (sym (chars-IsAscii line b.ascii));
  columns = ap length (chars-IsAscii line b.ascii);
  rest_text = b.rest_text;
  shorter = b.shorter;
}

-- the lines of a text of which nothing is left
pub all_filled : (width : ℕ) (lines : List (List ℕ)) (line rest : List ℕ) (whole : List (List ℕ))
    → length rest ≡ 0 → lines ++ fill_text width line rest ≡ whole
    → lines ++ unless_empty line ≡ whole
all_filled width lines line rest whole none was =
    ap (λ ws. lines ++ fill width line (parts_of width ws)) (sym (no_words rest (nil_of rest none)))
    ∙ was
