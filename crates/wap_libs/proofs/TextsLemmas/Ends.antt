-- Walks over the characters of a text, by its bytes.
use Rattle.std.proofs.Common.{◌≡◌, ℕ, ◌+◌, ◌-◌, ◌<◌, ◌≤◌, List, [], ◌∷◌, ◌++◌, length, take, drop}
use Rattle.std.proofs.Common.{ap, ap₂, sym, ◌∙◌, subst, arith, inl, inr, min, nat_lt}
use Rattle.std.specs.Char.{encode_utf8}
use Rattle.std.specs.Str.{IsUtf8, IsAscii, IsCharBoundary, chars}
use Rattle.std.proofs.lemmas.List.{append_cancel_right, take-append-drop, drop_at, drop-drop}
use Rattle.std.proofs.lemmas.List.{length-append, length-take-le, length-drop, drop_all}
use Rattle.std.proofs.lemmas.Bool.{cases_Bool, ltb-true, ltb-false}
use Rattle.std.proofs.lemmas.Str.{chars_past_char, IsUtf8-past_char, length-encode, len_utf8_bounds}
use Rattle.std.proofs.lemmas.Str.{chars_from_encodes, encodes-chars, encodes-append, chars-append}
use Rattle.std.proofs.lemmas.Str.{IsUtf8-take, IsCharBoundary-from_drop, chars-nil}
use Rattle.std.proofs.lemmas.Str.{IsCharBoundary-from_take, IsUtf8-from_ascii, chars-IsAscii}

-- no bytes are no characters
pub no_characters : (s : List ℕ) → length s ≡ 0 → chars s ≡ []
no_characters [] none = chars-nil
no_characters (b ∷ s) none = absurd (omega arith)

-- the bytes of a text from a place on
pub record IsEnd (s rest : List ℕ) : Type 0 where
  pub utf8 : IsUtf8 rest
  pub shorter : length rest ≤ length s
  pub end : rest ≡ drop (length s - length rest) s

pub ends_whole : (s : List ℕ) → IsUtf8 s → IsEnd s s
ends_whole s us = record {
  utf8 = us;
  shorter = omega arith;
  end =
      let none : 0 ≡ length s - length s = omega arith in
      ap (λ n. drop n s) none;
}

pub ends_more : (s rest behind : List ℕ) → IsEnd s rest → IsEnd rest behind → IsEnd s behind
ends_more s rest behind is more =
    let n : ℕ = length s - length rest in
    let m : ℕ = length rest - length behind in
    let both : n + m ≡ length s - length behind = omega (arith, is.shorter, more.shorter) in
    record {
      utf8 = more.utf8;
      shorter = omega (arith, is.shorter, more.shorter);
      end = more.end ∙ ap (drop m) is.end ∙ drop-drop m n s ∙ ap (λ d. drop d s) both;
    }

pub ends_cut : (s rest : List ℕ) → IsEnd s rest → IsCharBoundary s (length s - length rest)
ends_cut s rest is =
    IsCharBoundary-from_drop s (length s - length rest) (omega arith) (subst IsUtf8 is.end is.utf8)

-- a text in two parts
pub cut_whole : (s before rest : List ℕ) → IsUtf8 s
    → rest ≡ drop (length s - length rest) s → IsCharBoundary s (length s - length rest)
    → before ≡ take (length s - length rest) s → chars s ≡ chars before ++ chars rest
cut_whole s before rest us end cut front =
    let n : ℕ = length s - length rest in
    ap chars (sym (take-append-drop n s))
    ∙ chars-append (take n s) (drop n s) (IsUtf8-take s n us cut)
    ∙ ap₂ (λ a b. chars a ++ chars b) (sym front) (sym end)

-- a step over the first character
pub record IsAfter (c : ℕ) (s rest : List ℕ) : Type 0 where
  pub parts : chars s ≡ c ∷ chars rest
  pub utf8 : IsUtf8 rest
  pub smaller : length rest < length s
  pub end : rest ≡ drop (length s - length rest) s

pub after_first : (c : ℕ) (s rest : List ℕ) → IsUtf8 s → s ≡ encode_utf8 c ++ rest
    → IsAfter c s rest
after_first c s rest us same =
    let size : length s ≡ length (encode_utf8 c) + length rest =
    ap length same ∙ length-append (encode_utf8 c) rest in
    let width : length (encode_utf8 c) ≡ length s - length rest = omega (arith, size) in
    record {
      parts = chars_past_char s rest c us same;
      utf8 = IsUtf8-past_char s rest c us same;
      smaller = omega (arith, size, length-encode c, (len_utf8_bounds c).0);
      end =
          sym (ap (drop (length s - length rest)) same
          ∙ drop_at (encode_utf8 c) rest (length s - length rest) width);
    }

-- a step over the last one
pub before_last : (c : ℕ) (s rest : List ℕ) → IsUtf8 s → IsUtf8 rest → s ≡ rest ++ encode_utf8 c
    → chars s ≡ chars rest ++ c ∷ []
before_last c s rest us ur same =
    sym (chars_from_encodes (chars rest ++ c ∷ []) s us (encodes-append (chars rest) (c ∷ [])
    ∙ ap₂ (λ a b. a ++ b) (encodes-chars rest ur)
    (Rattle.std.proofs.Common.append-nil (encode_utf8 c))
    ∙ sym same))

pub before_smaller : (c : ℕ) (s rest : List ℕ) → s ≡ rest ++ encode_utf8 c → length rest < length s
before_smaller c s rest same =
    omega (
      arith,
      ap length same ∙ length-append rest (encode_utf8 c),
      length-encode c,
      (len_utf8_bounds c).0,
    )

-- characters that are passed over
pub skip_one : (left : ℕ) (c : ℕ) (s : List ℕ) → 0 < left → drop left (c ∷ s) ≡ drop (left - 1) s
skip_one left c s some =
    let same : left ≡ 1 + (left - 1) = omega arith in
    ap (λ n. drop n (c ∷ s)) same ∙ sym (drop-drop (left - 1) 1 (c ∷ s))

pub taken : (before s rest : List ℕ) (count : ℕ) → s ≡ before ++ rest → rest ≡ drop count s
    → before ≡ take count s
taken before s rest count whole same =
    append_cancel_right before (take count s) (drop count s)
    (ap (λ t. before ++ t) (sym same) ∙ sym whole ∙ sym (take-append-drop count s))

-- the walk over characters has so many left to pass over
pub record Skips (s : List ℕ) (count left : ℕ) (rest : List ℕ) : Type 0 where
  pub is_end : IsEnd s rest
  pub parts : drop left (chars rest) ≡ drop count (chars s)

-- where the first bytes are ASCII, they are as many characters
pub skip_ascii : (s rest : List ℕ) (count most : ℕ) → IsUtf8 s → most ≡ min count (length s)
    → IsAscii (take most s) → rest ≡ drop most s → chars rest ≡ drop count (chars s)
skip_ascii s rest count most us is ascii same =
    let before = take most s in
    let size : length before ≡ most = length-take-le most s (omega arith) in
    let whole : chars s ≡ before ++ chars rest =
    ap chars (sym (take-append-drop most s))
    ∙ chars-append before (drop most s) (IsUtf8-from_ascii before ascii)
    ∙ ap₂ (λ a b. a ++ chars b) (chars-IsAscii before ascii) (sym same) in
    elim (cases_Bool (nat_lt count (length s))) [
      | inl more ↦
          let all : length before ≡ count =
          omega (arith, size, ltb-true count (length s) more) in
          sym (ap (drop count) whole ∙ drop_at before (chars rest) count all)
      | inr fewer ↦
          let all : length s ≤ count = ltb-false count (length s) fewer in
          let none : chars rest ≡ [] =
          no_characters rest (omega (arith, ap length same, length-drop most s)) in
          let few : length (chars s) ≤ count =
          omega (
            arith,
            ap length whole,
            length-append before (chars rest),
            ap length none,
            size,
          ) in
          none ∙ sym (drop_all count (chars s) few)
    ]

pub cut_ascii : (s : List ℕ) (most : ℕ) → IsUtf8 s → most ≤ length s → IsAscii (take most s)
    → IsCharBoundary s most
cut_ascii s most us within ascii =
    IsCharBoundary-from_take s most us within (IsUtf8-from_ascii (take most s) ascii)
