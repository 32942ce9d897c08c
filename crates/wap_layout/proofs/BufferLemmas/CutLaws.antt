-- Lines in a buffer: lines that follow others, and lines as they are written.
use Rattle.std.proofs.Common.{◌≡◌, ℕ, suc, ◌+◌, List, [], ◌∷◌, ◌++◌, take, drop, length, refl, sym}
use Rattle.std.proofs.Common.{ap, ◌∙◌, arith, append_assoc, encode_utf8_all, subst, length-append}
use Rattle.std.proofs.lemmas.List.{take-append-le, drop-append-le, take-append-drop}
use Rattle.std.proofs.Math.Seq.{take-append_seam, drop-append_seam, drop-append-add}
use Rattle.std.specs.Str.{chars, IsUtf8}
use Rattle.std.proofs.lemmas.Str.{encodes-chars}
use Rattle.wap_base.specs.Ascii.{line_feed}
use Rattle.wap_layout.specs.buffer.Written.{lines_bytes}
use Rattle.wap_layout.specs.buffer.inside.Cuts.{lines_at, IsLine, AreLines}

-- ---- lines that follow others

-- bytes that are cut at a line, with more after them
module _ (n : ℕ) (bytes more : List ℕ) (line : IsLine n bytes) where
  taken : take n (bytes ++ more) ≡ take n bytes
  taken = take-append-le n bytes more (omega (arith, line.within))

  left : drop (n + 1) (bytes ++ more) ≡ drop (n + 1) bytes ++ more
  left = drop-append-le (n + 1) bytes more (omega (arith, line.within))

  is_line : IsLine n (bytes ++ more)
  is_line = record {
    within = omega (arith, line.within, length-append bytes more);
    text = subst IsUtf8 (sym taken) line.text;
    ended = drop-append-le n bytes more (omega (arith, line.within))
        ∙ ap (λ l. l ++ more) line.ended ∙ ap (λ l. line_feed ∷ l) (sym left);
  }

-- lines, and others after them
pub more_lines : (bytes more lengths others : List ℕ) → AreLines bytes lengths
    → lines_at (bytes ++ more) (lengths ++ others) ≡ lines_at bytes lengths ++ lines_at more others
more_lines bytes more [] others none = ap (λ l. lines_at (l ++ more) others) none
more_lines bytes more (n ∷ lengths) others are =
    ap (λ l. chars l ∷ lines_at (drop (n + 1) (bytes ++ more)) (lengths ++ others))
    (taken n bytes more are.0)
    ∙ ap (λ l. chars (take n bytes) ∷ lines_at l (lengths ++ others)) (left n bytes more are.0)
    ∙ ap (λ ls. chars (take n bytes) ∷ ls)
    (more_lines (drop (n + 1) bytes) more lengths others are.1)

pub are_more_lines : (bytes more lengths others : List ℕ) → AreLines bytes lengths
    → AreLines more others → AreLines (bytes ++ more) (lengths ++ others)
are_more_lines bytes more [] others none are =
    subst (λ l. AreLines (l ++ more) others) (sym none) are
are_more_lines bytes more (n ∷ lengths) others are after = (
  is_line n bytes more are.0,
  subst (λ l. AreLines l (lengths ++ others)) (sym (left n bytes more are.0))
      (are_more_lines (drop (n + 1) bytes) more lengths others are.1 after),
)

-- ---- one line

module _ (line : List ℕ) where
  nothing_left : drop (length line + 1) (line ++ line_feed ∷ []) ≡ []
  nothing_left = drop-append-add line (line_feed ∷ []) 1

  pub line_at : lines_at (line ++ line_feed ∷ []) (length line ∷ []) ≡ chars line ∷ []
  line_at = ap (λ l. chars l ∷ []) (take-append_seam line (line_feed ∷ []))

  pub is_one : IsUtf8 line → AreLines (line ++ line_feed ∷ []) (length line ∷ [])
  is_one text = (
    record {
      within = omega (arith, length-append line (line_feed ∷ []));
      text = subst IsUtf8 (sym (take-append_seam line (line_feed ∷ []))) text;
      ended = drop-append_seam line (line_feed ∷ []) ∙ ap (λ l. line_feed ∷ l) (sym nothing_left);
    },
    nothing_left,
  )

-- ---- all of them

-- as many as their lengths
pub many_lines : (bytes lengths : List ℕ) → length (lines_at bytes lengths) ≡ length lengths
many_lines bytes [] = refl
many_lines bytes (n ∷ lengths) = ap suc (many_lines (drop (n + 1) bytes) lengths)

-- the first line as it is written, and what follows it
first_written : (n : ℕ) (bytes : List ℕ) → IsLine n bytes
    → (encode_utf8_all (chars (take n bytes)) ++ line_feed ∷ []) ++ drop (n + 1) bytes ≡ bytes
first_written n bytes line =
    ap (λ l. (l ++ line_feed ∷ []) ++ drop (n + 1) bytes)
    (encodes-chars (take n bytes) line.text)
    ∙ append_assoc (take n bytes) (line_feed ∷ []) (drop (n + 1) bytes)
    ∙ ap (λ l. take n bytes ++ l) (sym line.ended) ∙ take-append-drop n bytes

-- they are written as the bytes are
pub written_again : (bytes lengths : List ℕ) → AreLines bytes lengths
    → bytes ≡ lines_bytes (lines_at bytes lengths)
written_again bytes [] none = none
written_again bytes (n ∷ lengths) are =
    let line = encode_utf8_all (chars (take n bytes)) ++ line_feed ∷ [] in
    sym (first_written n bytes are.0)
    ∙ ap (λ l. line ++ l) (written_again (drop (n + 1) bytes) lengths are.1)
