-- Texts that are cut at a character of US-ASCII, in their UTF-8.
use Rattle.std.proofs.Common.{◌≡◌, ℕ, ◌+◌, ◌<◌, Bool, true, false, List, [], ◌∷◌, ◌++◌}
use Rattle.std.proofs.Common.{length, take, drop, get_or, Option, Some, None, refl, ap, ap₂}
use Rattle.std.proofs.Common.{sym, ◌∙◌, subst, append_assoc, arith, Bor, inl, inr}
use Rattle.std.proofs.Common.{encode_utf8, encode_utf8_all, ◌≢◌}
use Rattle.std.specs.Prelude.{filter}
use Rattle.std.specs.List.{slice_split, list_any, flat_map}
use Rattle.std.specs.Option.{MatchOption}
use Rattle.std.specs.Str.{chars, IsUtf8, NoCharPasses, NonePass}
use Rattle.std.specs.Str.Pattern.{FindsBy, SplitsAroundMatch}
use Rattle.std.proofs.lemmas.Bool.{cases_Bool, or_from, or_parts}
use Rattle.std.proofs.lemmas.Bool.Decides.{nat_tests}
use Rattle.std.proofs.lemmas.List.{append-nil, length-append, take_at}
use Rattle.std.proofs.lemmas.List.Folds.{list_any-append}
use Rattle.std.proofs.lemmas.List.{drop_at, get_or_at, take-append-drop}
use Rattle.std.proofs.lemmas.Str.{chars-append, chars_past_char, IsUtf8-append}
use Rattle.std.proofs.lemmas.Str.{IsUtf8-from_ascii, encode_ascii, IsUtf8-take, IsUtf8-drop}
use Rattle.std.proofs.lemmas.Str.{IsCharBoundary-before_ascii, IsCharBoundary-after_ascii}
use Rattle.std.proofs.lemmas.Str.{encodes-chars, encodes_same, chars-nil}
use Rattle.std.proofs.lemmas.Str.Ascii.{IsAscii-cons, IsAscii-nil}
use Rattle.std.proofs.lemmas.Str.Pattern.{drop_at_char}
use Rattle.wap_base.proofs.TextLaws.{nil-from_chars}
use Rattle.wap_base.proofs.Splits.{HasFirst, HasFirst-split, split-append, split-none}
use Rattle.wap_layout.specs.declared.flow.Mode.TheVariants.{Preformatted}
use Rattle.wap_layout.specs.Blanks.{is_blank, is_line_feed, words_of, unless_empty}
use Rattle.wap_layout.specs.Pieces.{Piece, kept}
use Rattle.wap_layout.specs.Calculation.{piece_lines}
use Rattle.wap_layout.specs.inside.Slices.{IsCutAtBlank, IsCutAtFeed}
use Rattle.wap_layout.proofs.Splitting.{is_word, filter-word}

-- the first character that passes a test, what stands before it, and what follows it
pub record Cut (test : ℕ → Bool) (bytes before rest : List ℕ) : Type 0 where
  pub at : ℕ
  pub passes : test at ≡ true
  pub none : list_any test (chars before) ≡ false
  pub chars_are : chars bytes ≡ chars before ++ at ∷ chars rest
  pub rest_text : IsUtf8 rest
  pub shorter : length rest < length bytes

none_any : (test : ℕ → Bool) (cs : List ℕ) → NonePass test cs → list_any test cs ≡ false
none_any test [] none = refl
none_any test (c ∷ cs) none = or_from (test c) (list_any test cs) none.0 (none_any test cs none.1)

none_passes : (test : ℕ → Bool) (bytes : List ℕ) → IsUtf8 bytes → NoCharPasses test bytes
    → list_any test (chars bytes) ≡ false
none_passes test bytes text none =
    ap (list_any test)
    (sym (encodes_same none.0 (chars bytes) (none.1 ∙ sym (encodes-chars bytes text))))
    ∙ none_any test none.0 none.2

-- a text that is cut at a character of US-ASCII, before which none passes
pub cut_at : (test : ℕ → Bool) (bytes before rest : List ℕ) (c : ℕ) → IsUtf8 bytes
    → bytes
    ≡ before ++ c ∷ rest
    → c < 128 → test c ≡ true → (IsUtf8 before → list_any test (chars before) ≡ false)
    → Cut test bytes before rest
cut_at test bytes before rest c text is ascii passes none =
    let within : length before < length bytes =
    omega (arith, ap length is, length-append before (c ∷ rest)) in
    let at : get_or bytes (length before) 0 ≡ c =
    ap (λ bs. get_or bs (length before) 0) is ∙ get_or_at before c rest 0 (length before) refl in
    let before_text : IsUtf8 before =
    subst IsUtf8 (ap (take (length before)) is ∙ take_at before (c ∷ rest) (length before) refl)
    (IsUtf8-take bytes (length before) text
    (IsCharBoundary-before_ascii bytes (length before) within (omega arith))) in
    let rest_text : IsUtf8 rest =
    subst IsUtf8 (ap (drop (length before + 1)) (is ∙ sym (append_assoc before (c ∷ []) rest))
    ∙ drop_at (before ++ c ∷ []) rest (length before + 1) (length-append before (c ∷ [])))
    (IsUtf8-drop bytes (length before + 1) text
    (IsCharBoundary-after_ascii bytes (length before) text within (omega arith))) in
    record {
      at = c;
      passes = passes;
      none = none before_text;
      chars_are =
          ap chars is ∙ chars-append before (c ∷ rest) before_text ∙ ap (λ cs. chars before ++ cs)
          (chars_past_char (c ∷ rest) rest c (IsUtf8-append (c ∷ []) rest
          (IsUtf8-from_ascii (c ∷ []) (IsAscii-cons c [] ascii IsAscii-nil)) rest_text)
          (sym (ap (λ bs. bs ++ rest) (encode_ascii c ascii))));
      rest_text = rest_text;
      shorter = omega (arith, ap length is, length-append before (c ∷ rest));
    }

-- `split_once` cuts there
cut_first : (test : ℕ → Bool) (bytes before rest : List ℕ) → ((c : ℕ) → test c ≡ true → c < 128)
    → IsUtf8 bytes → SplitsAroundMatch (FindsBy test) bytes before rest → Cut test bytes before rest
cut_first test bytes before rest ascii text found =
    let c = found.2.1.0 in
    let small : c < 128 = ascii c found.2.1.1 in
    let is : bytes ≡ before ++ c ∷ rest =
    sym (take-append-drop found.0 bytes) ∙ ap (λ rest. take found.0 bytes ++ rest)
    (drop_at_char c bytes found.0 found.1 found.2.1.2 small)
    ∙ ap₂ (λ (before after : List ℕ). before ++ c ∷ after) (sym found.3) (sym found.4) in
    cut_at test bytes before rest c text is small found.2.1.1
    (λ before_text.
    none_passes test before before_text (subst (NoCharPasses test) (sym found.3) found.2.0))

-- ---- words

blank_ascii : (c : ℕ) → is_blank c ≡ true → c < 128
blank_ascii c blank = grind (arith, nat_tests)

pub words_cut : (bytes before rest : List ℕ) → Cut is_blank bytes before rest
    → IsCutAtBlank bytes before rest
words_cut bytes before rest cut = record {
  words_are = ap words_of cut.chars_are
      ∙ ap (filter is_word) (split-append is_blank (chars before) cut.at (chars rest) cut.passes
      ∙ ap (λ parts. parts ++ slice_split is_blank (chars rest))
      (split-none is_blank (chars before) cut.none))
      ∙ filter-word (chars before) (slice_split is_blank (chars rest));
  rest_text = cut.rest_text;
  shorter = cut.shorter;
}

pub words_none : (bytes : List ℕ) → list_any is_blank (chars bytes) ≡ false
    → words_of (chars bytes) ≡ unless_empty (chars bytes)
words_none bytes none =
    ap (filter is_word) (split-none is_blank (chars bytes) none) ∙ filter-word (chars bytes) []
    ∙ append-nil (unless_empty (chars bytes))

-- where one of the tests is passed
abbrev pub FindsByAny : ((ℕ → Bool) → Type 0) → List ℕ → Option (ℕ × ℕ) → Type 0
FindsByAny matches bytes found = (test : ℕ → Bool) → matches test → FindsBy test bytes found

-- what `split_once` gives at a test that is `is_blank`
pub blank_cut : (matches : (ℕ → Bool) → Type 0) (bytes : List ℕ)
    (result : Option (Bor (List ℕ) × Bor (List ℕ))) → IsUtf8 bytes
    → MatchOption result (FindsByAny matches bytes None)
    (λ cut. SplitsAroundMatch (FindsByAny matches) bytes cut.0.now cut.1.now)
    → matches is_blank
    → MatchOption result (words_of (chars bytes) ≡ unless_empty (chars bytes))
    (λ cut. IsCutAtBlank bytes cut.0.now cut.1.now)
blank_cut matches bytes None text found blank =
    words_none bytes (none_passes is_blank bytes text (found is_blank blank))
blank_cut matches bytes (Some cut) text found blank =
    words_cut bytes cut.0.now cut.1.now (cut_first is_blank bytes cut.0.now cut.1.now blank_ascii
    text (found.0, found.1, found.2 is_blank blank, found.3, found.4, found.5, found.6, found.7))

-- ---- lines of a preformatted text

-- a line of a preformatted text
abbrev pub kept_piece : List ℕ → Bool → Piece
kept_piece line hard = record { mode = Preformatted; text = line; is_hard = hard }

kept-first : (line : List ℕ) (parts : List (List ℕ)) (hard : Bool) → HasFirst parts
    → kept (line ∷ parts) hard ≡ kept_piece line true ∷ kept parts hard
kept-first line [] hard some = absurd (let e = some.is in cc)
kept-first line (part ∷ parts) hard some = refl

feed_ascii : (c : ℕ) → is_line_feed c ≡ true → c < 128
feed_ascii c feed = grind (arith, nat_tests)

-- a byte of a line feed is one of no other character
none_of_bytes : (cs : List ℕ) → list_any is_line_feed (encode_utf8_all cs) ≡ false
    → list_any is_line_feed cs ≡ false
none_of_bytes [] none = refl
none_of_bytes (c ∷ cs) none =
    let parts = or_parts (list_any is_line_feed (encode_utf8 c))
    (list_any is_line_feed (encode_utf8_all cs))
    (sym (list_any-append is_line_feed (encode_utf8 c) (encode_utf8_all cs)) ∙ none) in
    or_from (is_line_feed c) (list_any is_line_feed cs) (one_of_bytes parts.0)
    (none_of_bytes cs parts.1) where
      one_of_bytes : list_any is_line_feed (encode_utf8 c) ≡ false → is_line_feed c ≡ false
      one_of_bytes e = elim (cases_Bool (is_line_feed c)) [
        | inl holds ↦
            (or_parts (is_line_feed c) false
            (sym (ap (list_any is_line_feed) (encode_ascii c (feed_ascii c holds))) ∙ e)).0
        | inr fails ↦ fails
      ]

pub no_feed : (bytes : List ℕ) → IsUtf8 bytes → list_any is_line_feed bytes ≡ false
    → list_any is_line_feed (chars bytes) ≡ false
no_feed bytes text none =
    none_of_bytes (chars bytes) (ap (list_any is_line_feed) (encodes-chars bytes text) ∙ none)

-- a text that is cut at its first line feed
pub feed_cut : (bytes before rest : List ℕ) → IsUtf8 bytes → bytes ≡ before ++ 10 ∷ rest
    → list_any is_line_feed before ≡ false → IsCutAtFeed bytes before rest
feed_cut bytes before rest text is none =
    let cut =
    cut_at is_line_feed bytes before rest 10 text is (omega arith) refl
    (λ before_text. no_feed before before_text none) in
    record {
      lines_are = λ hard. ap (λ cs. kept (slice_split is_line_feed cs) hard) cut.chars_are
          ∙ ap (λ parts. kept parts hard)
          (split-append is_line_feed (chars before) cut.at (chars rest) cut.passes
          ∙ ap (λ parts. parts ++ slice_split is_line_feed (chars rest))
          (split-none is_line_feed (chars before) cut.none))
          ∙ kept-first (chars before) (slice_split is_line_feed (chars rest)) hard
          (HasFirst-split is_line_feed (chars rest));
      rest_text = cut.rest_text;
      shorter = cut.shorter;
    }

-- the lines of a text, and of what is left of it
abbrev lines_of_kept : ℕ → List ℕ → Bool → List (List ℕ)
lines_of_kept width bytes hard =
    flat_map (piece_lines width) (kept (slice_split is_line_feed (chars bytes)) hard)

pub kept-step : (width : ℕ) (hard : Bool) (lines new : List (List ℕ)) (bytes before rest : List ℕ)
    (whole : List (List ℕ)) → new ≡ lines ++ piece_lines width (kept_piece (chars before) true)
    → IsCutAtFeed bytes before rest
    → lines ++ lines_of_kept width bytes hard ≡ whole → new ++ lines_of_kept width rest hard ≡ whole
kept-step width hard lines new bytes before rest whole is cut was =
    ap (λ ls. ls ++ lines_of_kept width rest hard) is
    ∙ append_assoc lines (piece_lines width (kept_piece (chars before) true))
    (lines_of_kept width rest hard)
    ∙ ap (λ pieces. lines ++ flat_map (piece_lines width) pieces) (sym (cut.lines_are hard))
    ∙ was

pub kept-end : (width : ℕ) (hard : Bool) (lines : List (List ℕ)) (bytes : List ℕ)
    (whole : List (List ℕ)) → list_any is_line_feed (chars bytes) ≡ false
    → lines ++ lines_of_kept width bytes hard ≡ whole
    → lines ++ piece_lines width (kept_piece (chars bytes) hard) ≡ whole
kept-end width hard lines bytes whole none was =
    ap (λ ls. lines ++ ls) (sym (append-nil (piece_lines width (kept_piece (chars bytes) hard))))
    ∙ ap (λ pieces. lines ++ flat_map (piece_lines width) pieces)
    (sym (ap (λ parts. kept parts hard)
    (split-none is_line_feed (chars bytes) none)))
    ∙ was

-- ---- lines that are empty

-- no byte spells no character
pub none_shown : (bytes : List ℕ) → length bytes ≡ 0 → unless_empty (chars bytes) ≡ []
none_shown [] none = ap unless_empty chars-nil
none_shown (b ∷ bytes) none = absurd (omega arith)

-- and some bytes spell some
pub some_shown : (bytes : List ℕ) → IsUtf8 bytes → bytes ≢ []
    → unless_empty (chars bytes) ≡ chars bytes ∷ []
some_shown bytes text some = by (chars bytes) refl
  where
    by : (characters : List ℕ) → chars bytes ≡ characters
        → unless_empty characters ≡ characters ∷ []
    by [] is = absurd (some (nil-from_chars bytes text is))
    by (c ∷ characters) is = refl
