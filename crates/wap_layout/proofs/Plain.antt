-- A text's first word, found by its bytes: a blank's byte ends it, or one past US-ASCII.
use Rattle.std.proofs.Common.{◌≡◌, ℕ, zero, suc, ◌+◌, ◌<◌, ◌≤◌, ◌-◌, true, false, not, List, []}
use Rattle.std.proofs.Common.{◌∷◌, ◌++◌, length, take, drop, get_or, Some, None, cond, Result, Ok}
use Rattle.std.proofs.Common.{Err, refl, ap, ap₂, sym, ◌∙◌, inl, inr, subst, append_assoc, arith}
use Rattle.std.specs.Prelude.{nat_le, IfOk}
use Rattle.std.specs.List.{list_any, position, position_or_len}
use Rattle.std.specs.Str.{chars, IsUtf8, IsAscii, IsCharBoundary}
use Rattle.std.proofs.lemmas.Bool.{lt-ltb, not-true, cases_Bool, cases_lt, or_parts, or_from}
use Rattle.std.proofs.lemmas.Bool.Decides.{nat_tests}
use Rattle.std.proofs.lemmas.List.{length-append, length-take-le, take-append-drop, drop_more}
use Rattle.std.proofs.lemmas.List.Quantifiers.{position-Some}
use Rattle.std.proofs.lemmas.List.Sums.{prefix_len_passes}
use Rattle.std.proofs.Common.{encode_utf8, encode_utf8_all}
use Rattle.std.specs.Char.{len_utf8}
use Rattle.std.proofs.lemmas.Str.{chars-IsAscii, IsAscii-take, IsAscii-drop, encode_ascii}
use Rattle.std.proofs.lemmas.Str.{encodes-chars, length-encode, length-le-encodes, len_utf8_bounds}
use Rattle.std.proofs.lemmas.Str.{IsCharBoundary-before_ascii, IsCharBoundary-after_ascii}
use Rattle.std.proofs.lemmas.Str.Ascii.{IsAscii-cons, IsAscii-nil}
use Rattle.wap_layout.specs.Blanks.{is_blank, words_of, unless_empty}
use Rattle.wap_layout.specs.Calculation.{cut_word, fill}
use Rattle.wap_layout.specs.inside.Slices.{IsCutAtBlank, ends_word}
use Rattle.wap_layout.proofs.Slices.{cut_at, words_cut, words_none}
use Rattle.wap_layout.proofs.Filling.{fill-long}
use Rattle.wap_layout.proofs.Placing.{word-alone}

-- no byte ends a word
AllPlain : List ℕ → Type 0
AllPlain [] = Unit {0}
AllPlain (b ∷ bs) = (ends_word b ≡ false) × AllPlain bs

-- as far as no byte ends a word
plain_before : (bs : List ℕ) (at : ℕ) → ((k : ℕ) → k < at → ends_word (get_or bs k 0) ≡ false)
    → AllPlain (take at bs)
unfolding AllPlain
plain_before bs zero each = tt
plain_before [] (suc at) each = tt
plain_before (b ∷ bs) (suc at) each =
    (each 0 (omega arith), plain_before bs at (λ k within. each (suc k) (omega arith)))

all_plain : (bs : List ℕ) → ((k : ℕ) → k < length bs → ends_word (get_or bs k 0) ≡ false)
    → AllPlain bs
unfolding AllPlain
all_plain [] each = tt
all_plain (b ∷ bs) each =
    (each 0 (omega arith), all_plain bs (λ k within. each (suc k) (omega arith)))

-- such bytes are no blanks
no_blank : (bs : List ℕ) → AllPlain bs → list_any is_blank bs ≡ false
unfolding AllPlain
no_blank [] plain = refl
no_blank (b ∷ bs) plain =
    or_from (is_blank b) (list_any is_blank bs) (or_parts (is_blank b) (nat_le 128 b) plain.0).0
    (no_blank bs plain.1)

low_of : (b : ℕ) → nat_le 128 b ≡ false → b < 128
low_of b e = grind (arith, nat_tests)

not_high : (b : ℕ) → b < 128 → nat_le 128 b ≡ false
not_high b low = grind (arith, nat_tests)

-- and US-ASCII
plain_ascii : (bs : List ℕ) → AllPlain bs → IsAscii bs
unfolding AllPlain
plain_ascii [] plain = IsAscii-nil
plain_ascii (b ∷ bs) plain =
    IsAscii-cons b bs (low_of b (or_parts (is_blank b) (nat_le 128 b) plain.0).1)
    (plain_ascii bs plain.1)

no_blank_character : (bs : List ℕ) → AllPlain bs → list_any is_blank (chars bs) ≡ false
no_blank_character bs plain =
    ap (list_any is_blank) (chars-IsAscii bs (plain_ascii bs plain)) ∙ no_blank bs plain

-- what ends a word and is US-ASCII is a blank
blank_at : (b : ℕ) → ends_word b ≡ true → b < 128 → is_blank b ≡ true
blank_at b ends low = elim (cases_Bool (is_blank b)) [
  | inl holds ↦ holds
  | inr fails ↦
      absurd
      (let e = sym ends ∙ or_from (is_blank b) (nat_le 128 b) fails (not_high b low) in cc)
]

-- what is known of a text that is cut at a place
pub record PlainCut (bytes : List ℕ) (at : ℕ) : Type 0 where
  pub within : at < length bytes
  pub cut : IsCutAtBlank bytes (take at bytes) (drop (at + 1) bytes)
  pub ascii : IsAscii (take at bytes)
  pub columns : length (chars (take at bytes)) ≡ at
  pub before : IsCharBoundary bytes at
  pub after : IsCharBoundary bytes (at + 1)

-- a text that is cut where the first word ends, at a byte of US-ASCII
pub plain_cut : (bytes : List ℕ) (at : ℕ) → IsUtf8 bytes → position ends_word bytes ≡ Some at
    → get_or bytes at 0 < 128 → PlainCut bytes at
plain_cut bytes at text found low =
    let place = position-Some ends_word bytes at 0 found in
    let plain = plain_before bytes at place.2 in
    let is : bytes ≡ take at bytes ++ get_or bytes at 0 ∷ drop (at + 1) bytes =
    sym (take-append-drop at bytes)
    ∙ ap (λ rest. take at bytes ++ rest) (drop_more bytes at 0 place.0) in
    record {
      within = place.0;
      cut = words_cut bytes (take at bytes) (drop (at + 1) bytes)
          (cut_at is_blank bytes (take at bytes) (drop (at + 1) bytes) (get_or bytes at 0) text is
          low (blank_at (get_or bytes at 0) place.1 low)
          (λ part. no_blank_character (take at bytes) plain));
      ascii = plain_ascii (take at bytes) plain;
      columns = ap length (chars-IsAscii (take at bytes) (plain_ascii (take at bytes) plain))
          ∙ length-take-le at bytes (omega (arith, place.0));
      before = IsCharBoundary-before_ascii bytes at place.0 low;
      after = IsCharBoundary-after_ascii bytes at text place.0 low;
    }

-- a text's bytes from its start on
pub from_start : (at : ℕ) (bs : List ℕ) → take (at - 0) (drop 0 bs) ≡ take at bs
from_start at bs = let e : at - 0 ≡ at = omega arith in ap (λ n. take n bs) e

place_of : (bs : List ℕ) → position_or_len ends_word bs < length bs
    → position ends_word bs ≡ Some (position_or_len ends_word bs)
place_of bs within =
    ap (λ test. cond test (Some (position_or_len ends_word bs)) None)
    (lt-ltb (position_or_len ends_word bs) (length bs) within)

-- where no place is found
plain_none : (bytes : List ℕ) → position ends_word bytes ≡ None → AllPlain bytes
plain_none bytes none = elim (cases_lt (position_or_len ends_word bytes) (length bytes)) [
  | inl within ↦ absurd (let e = sym none ∙ place_of bytes within in cc)
  | inr all ↦
      all_plain bytes (λ k within. not-true (ends_word (get_or bytes k 0)) (prefix_len_passes (λ b.
      not (ends_word b)) bytes k 0 (omega arith)))
]

pub ascii_whole : (bytes : List ℕ) → position ends_word bytes ≡ None → IsAscii bytes
ascii_whole bytes none = plain_ascii bytes (plain_none bytes none)

-- a text whose first word doesn't end is one word at most
pub plain_whole : (bytes : List ℕ) → position ends_word bytes ≡ None
    → words_of (chars bytes) ≡ unless_empty (chars bytes)
plain_whole bytes none = words_none bytes (no_blank_character bytes (plain_none bytes none))

-- ---- the parts of a word of US-ASCII

-- a character that takes one byte is US-ASCII
one_byte : (c : ℕ) → len_utf8 c ≡ 1 → c < 128
one_byte c e = grind (arith, nat_tests)

-- so characters of one byte each are
even_ascii : (cs : List ℕ) → length (encode_utf8_all cs) ≡ length cs → IsAscii (encode_utf8_all cs)
even_ascii [] even = IsAscii-nil
even_ascii (c ∷ cs) even =
    let whole = length-append (encode_utf8 c) (encode_utf8_all cs) in
    let long = length-encode c in
    let bounds = len_utf8_bounds c in
    let few = length-le-encodes cs in
    let low : c < 128 = one_byte c (omega (arith, whole, long, bounds.0, few, even)) in
    subst IsAscii (sym (ap (λ bs. bs ++ encode_utf8_all cs) (encode_ascii c low)))
    (IsAscii-cons c (encode_utf8_all cs) low
    (even_ascii cs (omega (arith, whole, long, bounds.0, few, even))))

-- a text with as many bytes as characters is US-ASCII
pub ascii_even : (bytes : List ℕ) → IsUtf8 bytes → length bytes ≡ length (chars bytes)
    → IsAscii bytes
ascii_even bytes text even =
    let is = encodes-chars bytes text in
    subst IsAscii is (even_ascii (chars bytes) (ap length is ∙ even))

-- a part as long as the width
pub parts-step : (width : ℕ) (lines new : List (List ℕ)) (rest part after : List ℕ)
    (more whole : List (List ℕ)) → 1 ≤ width → width < length rest → IsAscii rest
    → part ≡ take width rest → after ≡ drop width rest → new ≡ lines ++ chars part ∷ []
    → lines ++ fill width [] (cut_word width (chars rest) ++ more) ≡ whole
    → new ++ fill width [] (cut_word width (chars after) ++ more) ≡ whole
parts-step width lines new rest part after more whole one long ascii part_is after_is new_is was =
    let of_part : chars part ≡ take width rest =
    ap chars part_is ∙ chars-IsAscii (take width rest) (IsAscii-take rest width ascii) in
    let of_after : chars after ≡ drop width rest =
    ap chars after_is ∙ chars-IsAscii (drop width rest) (IsAscii-drop rest width ascii) in
    let step : fill width [] (cut_word width (chars rest) ++ more)
    ≡ chars part ∷ fill width [] (cut_word width (chars after) ++ more) =
    ap (λ w. fill width [] (cut_word width w ++ more)) (chars-IsAscii rest ascii)
    ∙ fill-long width rest more one long
    ∙ ap₂ (λ (p w : List ℕ). p ∷ fill width [] (cut_word width w ++ more)) (sym of_part)
    (sym of_after) in
    ap (λ ls. ls ++ fill width [] (cut_word width (chars after) ++ more)) new_is
    ∙ append_assoc lines (chars part ∷ []) (fill width [] (cut_word width (chars after) ++ more))
    ∙ ap (λ ls. lines ++ ls) (sym step) ∙ was

-- what is left is US-ASCII
pub ascii_after : (width : ℕ) (rest after : List ℕ) → after ≡ drop width rest → IsAscii rest
    → IsAscii after
ascii_after width rest after is ascii = subst IsAscii (sym is) (IsAscii-drop rest width ascii)

-- what is left at the end, which is no longer than the width, begins a line
pub parts-end : (width : ℕ) (lines : List (List ℕ)) (last word : List ℕ)
    (more whole : List (List ℕ)) → length word ≤ width → last ≡ word
    → lines ++ fill width [] (cut_word width word ++ more) ≡ whole
    → lines ++ fill width last more ≡ whole
parts-end width lines last word more whole short is was =
    ap (λ l. lines ++ fill width l more) is
    ∙ ap (λ ls. lines ++ ls) (sym (word-alone width word more short))
    ∙ was

-- what is left has few columns where it has few bytes
pub ascii_short : (width : ℕ) (rest : List ℕ) → IsAscii rest → length rest ≤ width
    → length (chars rest) ≤ width
ascii_short width rest ascii short =
    let e = ap length (chars-IsAscii rest ascii) in omega (arith, e, short)

-- the same, where there is memory for that line
pub parts-end_ok : {E : Type 0} (result : Result (List ℕ) E) (width : ℕ)
    (lines old : List (List ℕ)) (rest word : List ℕ) → length rest ≤ width
    → IfOk result (λ line. line ≡ rest)
    → ((more : List (List ℕ)) → lines ++ fill width [] (cut_word width rest ++ more)
    ≡ old ++ fill width [] (cut_word width word ++ more))
    → IfOk result (λ last. (more : List (List ℕ)) → lines ++ fill width last more
    ≡ old ++ fill width [] (cut_word width word ++ more))
parts-end_ok (Ok last) width lines old rest word short is was =
    λ more. parts-end width lines last rest more _ short is (was more)
parts-end_ok (Err e) width lines old rest word short is was = tt
