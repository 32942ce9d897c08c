-- A preformatted text's first line, found by its bytes.
use Rattle.std.proofs.Common.{◌≡◌, ℕ, zero, suc, ◌+◌, ◌<◌, Bool, false, not, List, []}
use Rattle.std.proofs.Common.{◌∷◌, ◌++◌, length, take, drop, get_or, Some, None, cond}
use Rattle.std.proofs.Common.{refl, ap, sym, ◌∙◌, inl, inr, arith}
use Rattle.std.specs.List.{list_any, position, position_or_len}
use Rattle.std.specs.Str.{chars, IsUtf8, IsCharBoundary}
use Rattle.std.proofs.lemmas.Bool.{lt-ltb, not-true, cases_lt, or_from, eqb-true}
use Rattle.std.proofs.lemmas.List.{take-append-drop, drop_more}
use Rattle.std.proofs.lemmas.List.Quantifiers.{position-Some}
use Rattle.std.proofs.lemmas.List.Sums.{prefix_len_passes}
use Rattle.std.proofs.lemmas.Str.{IsCharBoundary-before_ascii, IsCharBoundary-after_ascii}
use Rattle.wap_layout.specs.Blanks.{is_line_feed}
use Rattle.wap_layout.specs.inside.Slices.{IsCutAtFeed}
use Rattle.wap_layout.proofs.Slices.{feed_cut, no_feed}

-- as far as no byte passes
any_before : (test : ℕ → Bool) (bs : List ℕ) (at : ℕ)
    → ((k : ℕ) → k < at → test (get_or bs k 0) ≡ false) → list_any test (take at bs) ≡ false
any_before test bs zero each = refl
any_before test [] (suc at) each = refl
any_before test (b ∷ bs) (suc at) each =
    or_from (test b) (list_any test (take at bs)) (each 0 (omega arith))
    (any_before test bs at (λ k within. each (suc k) (omega arith)))

any_of : (test : ℕ → Bool) (bs : List ℕ)
    → ((k : ℕ) → k < length bs → test (get_or bs k 0) ≡ false) → list_any test bs ≡ false
any_of test [] each = refl
any_of test (b ∷ bs) each =
    or_from (test b) (list_any test bs) (each 0 (omega arith))
    (any_of test bs (λ k within. each (suc k) (omega arith)))

place_of : (test : ℕ → Bool) (bs : List ℕ) → position_or_len test bs < length bs
    → position test bs ≡ Some (position_or_len test bs)
place_of test bs within =
    ap (λ found. cond found (Some (position_or_len test bs)) None)
    (lt-ltb (position_or_len test bs) (length bs) within)

any_none : (test : ℕ → Bool) (bs : List ℕ) → position test bs ≡ None → list_any test bs ≡ false
any_none test bs none = elim (cases_lt (position_or_len test bs) (length bs)) [
  | inl within ↦ absurd (let e = sym none ∙ place_of test bs within in cc)
  | inr all ↦
      any_of test bs (λ k within. not-true (test (get_or bs k 0)) (prefix_len_passes (λ b.
      not (test b)) bs k 0 (omega arith)))
]

-- a text without a line feed's byte has no line feed
pub feed_none : (bytes : List ℕ) → IsUtf8 bytes → position is_line_feed bytes ≡ None
    → list_any is_line_feed (chars bytes) ≡ false
feed_none bytes text none = no_feed bytes text (any_none is_line_feed bytes none)

-- what is known of a text that is cut at its first line feed
pub record FeedCut (bytes : List ℕ) (at : ℕ) : Type 0 where
  pub cut : IsCutAtFeed bytes (take at bytes) (drop (at + 1) bytes)
  pub before : IsCharBoundary bytes at
  pub after : IsCharBoundary bytes (at + 1)

pub place_cut : (bytes : List ℕ) (at : ℕ) → IsUtf8 bytes → position is_line_feed bytes ≡ Some at
    → FeedCut bytes at
place_cut bytes at text found =
    let place = position-Some is_line_feed bytes at 0 found in
    let feed : get_or bytes at 0 ≡ 10 = eqb-true (get_or bytes at 0) 10 place.1 in
    record {
      cut = feed_cut bytes (take at bytes) (drop (at + 1) bytes) text
          (sym (take-append-drop at bytes)
          ∙ ap (λ rest. take at bytes ++ rest) (drop_more bytes at 0 place.0)
          ∙ ap (λ c. take at bytes ++ c ∷ drop (at + 1) bytes) feed)
          (any_before is_line_feed bytes at place.2);
      before = IsCharBoundary-before_ascii bytes at place.0 (omega (arith, feed));
      after = IsCharBoundary-after_ascii bytes at text place.0 (omega (arith, feed));
    }
