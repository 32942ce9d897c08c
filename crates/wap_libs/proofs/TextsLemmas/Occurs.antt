-- Where a text occurs in another, by bytes and by characters.
use Rattle.std.proofs.Common.{◌≡◌, ◌≢◌, ℕ, zero, suc, ◌+◌, ◌<◌, ◌≤◌, true, false, List, [], ◌∷◌}
use Rattle.std.proofs.Common.{◌++◌, length, take, drop, Option, Some, None, refl, ap, ap₂, sym, ◌∙◌}
use Rattle.std.proofs.Common.{subst, inl, inr, arith, encode_utf8_all, append_assoc, append-nil}
use Rattle.std.specs.Prelude.{nat_eq, option_map}
use Rattle.std.specs.List.{starts_with, flat_map, join_by}
use Rattle.std.specs.Str.{IsUtf8, IsCharBoundary, chars}
use Rattle.std.specs.Str.Pattern.{FindsText, FindsChar, HasTextAt, SplitsAroundMatch}
use Rattle.std.specs.Prelude.{MatchOption}
use Rattle.std.proofs.Common.{Bor, get_or}
use Rattle.std.proofs.lemmas.Str.Pattern.{NoCharPasses-char, drop_at_char}
use Rattle.std.proofs.lemmas.Str.{len_utf8_ascii}
use Rattle.std.proofs.lemmas.List.{get_or-take, get_or-drop}
use Rattle.std.proofs.Math.Seq.{take-append_seam}
use Rattle.std.proofs.lemmas.Bool.{cases_Bool, cases_lt, cond-true, cond-false}
use Rattle.std.proofs.lemmas.List.{drop_at, length-append, length-drop}
use Rattle.std.proofs.lemmas.List.{length-take-le, take-append-drop}
use Rattle.std.proofs.lemmas.Str.{encodes-chars, encodes-append, chars-append, IsUtf8-append}
use Rattle.std.proofs.lemmas.Str.{IsUtf8-take, IsUtf8-drop, IsCharBoundary-from_drop}
use Rattle.std.proofs.lemmas.Slice.Eq.{starts_is}
use Rattle.std.proofs.lemmas.Bool.Decides.{Decides-eqb}
use Rattle.wap_base.specs.Utf8.{utf8_len}
use Rattle.wap_base.proofs.Utf8Lengths.{length-encode_utf8_all, utf8_len-bounds}
use Rattle.wap_libs.specs.Occurrences.{place_of, cut_at, pieces, replaced}

-- the text p occurs nowhere in s
pub record Lacks (p s : List ℕ) : Type 0 where
  pub nowhere : (front back : List ℕ) → s ≢ front ++ (p ++ back)

-- p occurs in s after the prefix, and nowhere before
pub record IsFirst (p s front back : List ℕ) : Type 0 where
  pub split : s ≡ front ++ (p ++ back)
  pub first : (before behind : List ℕ) → s ≡ before ++ (p ++ behind) → length front ≤ length before

-- of two prefixes of a text, the one of fewer bytes has fewer characters
shorter : (a b x y : List ℕ) → a ++ x ≡ b ++ y → utf8_len a ≤ utf8_len b → length a ≤ length b
shorter [] b x y same fewer = omega arith
shorter (c ∷ a) [] x y same fewer =
    absurd (omega (arith, (Rattle.std.proofs.lemmas.Str.len_utf8_bounds c).0))
shorter (c ∷ a) (d ∷ b) x y same fewer =
    let heads : c ≡ d = cc in
    let tails : a ++ x ≡ b ++ y = cc in
    let rest : utf8_len a ≤ utf8_len b = omega (arith, ap Rattle.std.specs.Char.len_utf8 heads) in
    omega (arith, shorter a b x y tails rest)

-- what stands in the characters stands in the bytes
in_bytes : (s p front back : List ℕ) → IsUtf8 s → IsUtf8 p → chars s ≡ front ++ (chars p ++ back)
    → s ≡ encode_utf8_all front ++ (p ++ encode_utf8_all back)
in_bytes s p front back us up same =
    sym (encodes-chars s us) ∙ ap encode_utf8_all same ∙ encodes-append front (chars p ++ back)
    ∙ ap (λ t. encode_utf8_all front ++ t)
    (encodes-append (chars p) back ∙ ap (λ t. t ++ encode_utf8_all back) (encodes-chars p up))

at_bytes : (s p front back : List ℕ) → IsUtf8 s → IsUtf8 p → chars s ≡ front ++ (chars p ++ back)
    → drop (utf8_len front) s ≡ p ++ encode_utf8_all back
at_bytes s p front back us up same =
    ap (drop (utf8_len front)) (in_bytes s p front back us up same)
    ∙ drop_at (encode_utf8_all front) (p ++ encode_utf8_all back) (utf8_len front)
    (length-encode_utf8_all front)

within_bytes : (s p front back : List ℕ) → IsUtf8 s → IsUtf8 p
    → chars s ≡ front ++ (chars p ++ back) → utf8_len front ≤ length s
within_bytes s p front back us up same =
    omega (
      arith,
      ap length (in_bytes s p front back us up same),
      length-append (encode_utf8_all front) (p ++ encode_utf8_all back),
      length-encode_utf8_all front,
    )

pub Lacks-chars : (s p : List ℕ) → IsUtf8 s → IsUtf8 p → FindsText p s None
    → Lacks (chars p) (chars s)
Lacks-chars s p us up none = record {
  nowhere =
      λ front back same. none (utf8_len front) (within_bytes s p front back us up same)
      (encode_utf8_all back) (at_bytes s p front back us up same);
}

-- a place of a text that isn't empty lies within
place_within : (s p : List ℕ) (i j : ℕ) → 0 < length p → HasTextAt p s i j → i < length s
place_within s p i j some at =
    omega (arith, ap length at.split, length-drop i s, length-append p (drop j s))

pub utf8_front : (s p : List ℕ) (i j : ℕ) → IsUtf8 s → IsUtf8 p → 0 < length p → HasTextAt p s i j
    → IsUtf8 (take i s) × IsUtf8 (drop j s)
utf8_front s p i j us up some at =
    let P : ℕ → Type 0 = λ k. IsCharBoundary s k in
    let behind : IsUtf8 (drop j s) = IsUtf8-drop s j us (subst P (sym at.ends) at.after) in
    let U : List ℕ → Type 0 = IsUtf8 in
    let tail : IsUtf8 (drop i s) = subst U (sym at.split) (IsUtf8-append p (drop j s) up behind) in
    let small : i ≤ length s = omega (arith, place_within s p i j some at) in
    (IsUtf8-take s i us (IsCharBoundary-from_drop s i small tail), behind)

pub IsFirst-chars : (s p : List ℕ) (i j : ℕ) → IsUtf8 s → IsUtf8 p → 0 < length p
    → FindsText p s (Some (i, j))
    → IsFirst (chars p) (chars s) (chars (take i s)) (chars (drop j s))
IsFirst-chars s p i j us up some found =
    let at : HasTextAt p s i j = found.1 in
    let fits = utf8_front s p i j us up some at in
    let small : i ≤ length s = omega (arith, place_within s p i j some at) in
    let split : chars s ≡ chars (take i s) ++ (chars p ++ chars (drop j s)) =
    ap chars (sym (take-append-drop i s) ∙ ap (λ t. take i s ++ t) at.split)
    ∙ chars-append (take i s) (p ++ drop j s) fits.0
    ∙ ap (λ t. chars (take i s) ++ t) (chars-append p (drop j s) up) in
    let bytes : utf8_len (chars (take i s)) ≡ i =
    sym (length-encode_utf8_all (chars (take i s))) ∙ ap length (encodes-chars (take i s) fits.0)
    ∙ length-take-le i s small in
    record {
      split = split;
      first = λ before behind same.
          let late : i ≤ utf8_len before = elim (cases_lt (utf8_len before) i) [
            | inl early ↦
                absurd (found.0 (utf8_len before) early (encode_utf8_all behind)
                (at_bytes s p before behind us up same))
            | inr fine ↦ fine
          ] in
          shorter (chars (take i s)) before (chars p ++ chars (drop j s)) (chars p ++ behind)
          (sym split ∙ same) (omega arith);
    }

-- a text begins with another: what follows it, and the test
begins : (s p : List ℕ) → starts_with nat_eq s p ≡ true → s ≡ p ++ drop (length p) s
begins s p holds = (starts_is Decides-eqb s p (starts_with nat_eq s p) refl).0 holds

begins_with : (p s : List ℕ) → starts_with nat_eq (p ++ s) p ≡ true
begins_with p s = (starts_is Decides-eqb (p ++ s) p (starts_with nat_eq (p ++ s) p) refl).1 s refl

never_begins : (s p : List ℕ) → ((rest : List ℕ) → s ≢ p ++ rest) → starts_with nat_eq s p ≡ false
never_begins s p none = elim (cases_Bool (starts_with nat_eq s p)) [
  | inl holds ↦ absurd (none (drop (length p) s) (begins s p holds))
  | inr fails ↦ fails
]

-- the rest of a text without the part is without it
rest_lacks : (p s : List ℕ) (c : ℕ) → Lacks p (c ∷ s) → Lacks p s
rest_lacks p s c none =
    record { nowhere = λ front back same. none.nowhere (c ∷ front) back (ap (λ t. c ∷ t) same) }

rest_first : (p s front back : List ℕ) (c : ℕ) → IsFirst p (c ∷ s) (c ∷ front) back
    → IsFirst p s front back
rest_first p s front back c is = record {
  split = let whole = is.split in cc;
  first = λ before behind same. omega (arith, is.first (c ∷ before) behind (ap (λ t. c ∷ t) same));
}

pub place_of-Lacks : (p s : List ℕ) → Lacks p s → None ≡ place_of p s
place_of-Lacks p [] none = refl
place_of-Lacks p (c ∷ s) none =
    ap (option_map (λ k. suc k)) (place_of-Lacks p s (rest_lacks p s c none))
    ∙ sym (cond-false (starts_with nat_eq (c ∷ s) p) (Some 0) (option_map (λ k. suc k)
    (place_of p s)) (never_begins (c ∷ s) p (λ rest. none.nowhere [] rest)))

here : (d : ℕ) (q s back : List ℕ) → s ≡ (d ∷ q) ++ back → Some 0 ≡ place_of (d ∷ q) s
here d q s back is =
    rw is (sym (cond-true (starts_with nat_eq ((d ∷ q) ++ back) (d ∷ q)) (Some 0)
    (option_map (λ k. suc k) (place_of (d ∷ q) (q ++ back))) (begins_with (d ∷ q) back)))

not_here : (p s front back : List ℕ) (c : ℕ) → IsFirst p s (c ∷ front) back
    → starts_with nat_eq s p ≡ false
not_here p s front back c is =
    never_begins s p (λ rest same. absurd (omega (arith, is.first [] rest same)))

pub place_of-IsFirst : (d : ℕ) (q s front back : List ℕ) → IsFirst (d ∷ q) s front back
    → Some (length front) ≡ place_of (d ∷ q) s
place_of-IsFirst d q s [] back is = here d q s back is.split
place_of-IsFirst d q [] (c ∷ front) back is = absurd (let whole = is.split in cc)
place_of-IsFirst d q (e ∷ s) (c ∷ front) back is =
    let same : e ≡ c = (let whole = is.split in cc) in
    let P : ℕ → Type 0 = λ k. IsFirst (d ∷ q) (e ∷ s) (k ∷ front) back in
    ap (option_map (λ k. suc k))
    (place_of-IsFirst d q s front back (rest_first (d ∷ q) s front back e (subst P (sym same) is)))
    ∙ sym (cond-false (starts_with nat_eq (e ∷ s) (d ∷ q)) (Some 0)
    (option_map (λ k. suc k) (place_of (d ∷ q) s)) (not_here (d ∷ q) (e ∷ s) front back c is))

-- a text in which nothing occurs is one piece
pieces_none : (most : ℕ) (p s : List ℕ) → Lacks p s → pieces most p s ≡ s ∷ []
pieces_none zero p s none = refl
pieces_none (suc most) p s none =
    ap (cut_at (pieces most p) (length p) s) (sym (place_of-Lacks p s none))

-- nothing is replaced where nothing occurs
pub replaced-Lacks : (p new s : List ℕ) → Lacks p s → replaced p new s ≡ s
replaced-Lacks p new s none =
    ap (join_by (λ (piece : List ℕ). piece) new) (pieces_none (length s) p s none) ∙ append-nil s

-- the first piece ends at the first occurrence
pieces_first : (most d : ℕ) (q s front back : List ℕ) → IsFirst (d ∷ q) s front back
    → pieces (suc most) (d ∷ q) s ≡ front ∷ pieces most (d ∷ q) back
pieces_first most d q s front back is =
    let p : List ℕ = d ∷ q in
    let taken : take (length front) s ≡ front =
    ap (take (length front)) is.split ∙ take-append_seam front (p ++ back) in
    let left : drop (length front + length p) s ≡ back =
    ap (drop (length front + length p)) (is.split ∙ sym (append_assoc front p back))
    ∙ drop_at (front ++ p) back (length front + length p) (length-append front p) in
    ap (cut_at (pieces most p) (length p) s) (sym (place_of-IsFirst d q s front back is))
    ∙ ap₂ (λ (a b : List ℕ). a ∷ pieces most p b) taken left

-- a text has no more occurrences than characters
enough : (one two d : ℕ) (q s : List ℕ) → length s ≤ one → length s ≤ two
    → pieces one (d ∷ q) s ≡ pieces two (d ∷ q) s
enough zero zero d q s few fewer = refl
enough zero (suc two) d q [] few fewer = refl
enough zero (suc two) d q (c ∷ s) few fewer = absurd (omega (arith, few))
enough (suc one) zero d q [] few fewer = refl
enough (suc one) zero d q (c ∷ s) few fewer = absurd (omega (arith, fewer))
enough (suc one) (suc two) d q s few fewer =
    by (place_of (d ∷ q) s) (λ k. enough one two d q (drop (k + length (d ∷ q)) s)
    (omega (arith, few, length-drop (k + length (d ∷ q)) s))
    (omega (arith, fewer, length-drop (k + length (d ∷ q)) s)))
  where
    by : (o : Option ℕ)
        → ((k : ℕ) → pieces one (d ∷ q) (drop (k + length (d ∷ q)) s)
        ≡ pieces two (d ∷ q) (drop (k + length (d ∷ q)) s))
        → cut_at (pieces one (d ∷ q)) (length (d ∷ q)) s o
        ≡ cut_at (pieces two (d ∷ q)) (length (d ∷ q)) s o
    by None same = refl
    by (Some k) same = ap (λ (others : List (List ℕ)). take k s ∷ others) (same k)

-- there is a piece, so the new text stands before those that come next
next_joined : (most : ℕ) (p new s : List ℕ)
    → flat_map (λ (piece : List ℕ). new ++ piece) (pieces most p s)
    ≡ new ++ join_by (λ (piece : List ℕ). piece) new (pieces most p s)
next_joined zero p new s = append_assoc new s []
next_joined (suc most) p new s = by (place_of p s)
  where
    by : (o : Option ℕ)
        → flat_map (λ (piece : List ℕ). new ++ piece) (cut_at (pieces most p) (length p) s o)
        ≡ new ++ join_by (λ (piece : List ℕ). piece) new (cut_at (pieces most p) (length p) s o)
    by None = append_assoc new s []
    by (Some k) =
        append_assoc new (take k s)
        (flat_map (λ (piece : List ℕ). new ++ piece) (pieces most p (drop (k + length p) s)))

pub replaced-IsFirst : (d : ℕ) (q new s front back : List ℕ) → IsFirst (d ∷ q) s front back
    → replaced (d ∷ q) new s ≡ front ++ (new ++ replaced (d ∷ q) new back)
replaced-IsFirst d q new [] front back is =
    absurd (omega (arith, ap length is.split, length-append front ((d ∷ q) ++ back)))
replaced-IsFirst d q new (e ∷ s) front back is =
    let p : List ℕ = d ∷ q in
    let size : length (e ∷ s) ≡ length front + length (p ++ back) =
    ap length is.split ∙ length-append front (p ++ back) in
    ap (join_by (λ (piece : List ℕ). piece) new)
    (pieces_first (length s) d q (e ∷ s) front back is
    ∙ ap (λ (others : List (List ℕ)). front ∷ others) (enough (length s) (length back) d q back
    (omega (arith, size, length-append p back)) (omega arith)))
    ∙ ap (λ (t : List ℕ). front ++ t) (next_joined (length back) p new back)

pub place_of-first : (p s front back : List ℕ) → 0 < length p → IsFirst p s front back
    → Some (length front) ≡ place_of p s
place_of-first [] s front back some is = absurd (omega arith)
place_of-first (d ∷ q) s front back some is = place_of-IsFirst d q s front back is

pub replaced-first : (p new s front back : List ℕ) → 0 < length p → IsFirst p s front back
    → replaced p new s ≡ front ++ (new ++ replaced p new back)
replaced-first [] new s front back some is = absurd (omega arith)
replaced-first (d ∷ q) new s front back some is = replaced-IsFirst d q new s front back is

-- a text that has characters has bytes
pub some_bytes : (p : List ℕ) → IsUtf8 p → 0 < length (chars p) → 0 < length p
some_bytes p up some =
    omega (
      arith,
      ap length (encodes-chars p up),
      length-encode_utf8_all (chars p),
      (utf8_len-bounds (chars p)).0,
    )

-- the byte at a place, by what the text is from there on
at_place : (s : List ℕ) (i c : ℕ) (rest : List ℕ) → drop i s ≡ c ∷ rest → get_or s i 0 ≡ c
at_place s i c rest same =
    let here : i + 0 ≡ i = omega arith in
    sym (get_or-drop i s 0 0 ∙ ap (λ n. get_or s n 0) here) ∙ ap (λ t. get_or t 0 0) same

-- where a character of one byte stands, its byte does as a text
text_of_char : (c : ℕ) (s : List ℕ) (o : Option (ℕ × ℕ)) → c < 128 → FindsChar c s o
    → FindsText (c ∷ []) s o
text_of_char c s None low none = λ i within rest same.
    NoCharPasses-char c s i none low
    (omega (arith, ap length same, length-drop i s)) (at_place s i c rest same)
text_of_char c s (Some (i, j)) low (free, at) =
    let split = drop_at_char c s i j at low in
    let inside : i < length s = omega (arith, ap length split, length-drop i s) in (
      λ k early rest same.
          NoCharPasses-char c (take i s) k free low
          (omega (arith, length-take-le i s (omega arith)))
          (get_or-take i s k 0 early ∙ at_place s k c rest same),
      record {
        split = split;
        ends = at.ends ∙ ap (λ n. i + n) (len_utf8_ascii c low);
        after = subst (λ n. IsCharBoundary s (i + n)) (len_utf8_ascii c low) at.after;
      },
    )

-- a text of one byte is that byte
pub one_byte : (s : List ℕ) → 1 ≤ length s → length s < 2 → get_or s 0 0 ∷ [] ≡ s
one_byte [] some few = absurd (omega arith)
one_byte (b ∷ []) some few = refl
one_byte (b ∷ d ∷ s) some few = absurd (omega arith)

-- what is split at the one is split at the other
pub split_text : (c : ℕ) (s : List ℕ) (r : Option (Bor (List ℕ) × Bor (List ℕ))) → c < 128
    → MatchOption r (FindsChar c s None)
    (λ x. SplitsAroundMatch (FindsChar c) s x.0.now x.1.now)
    → MatchOption r (FindsText (c ∷ []) s None)
    (λ x. SplitsAroundMatch (FindsText (c ∷ [])) s x.0.now x.1.now)
split_text c s None low none = text_of_char c s None low none
split_text c s (Some x) low found = (
  found.0,
  found.1,
  text_of_char c s (Some (found.0, found.1)) low found.2,
  found.3,
  found.4,
  found.5,
  found.6,
  found.7,
)

-- one occurrence is replaced, and the rest is still to come
pub record IsStep (old new rest before behind : List ℕ) : Type 0 where
  pub utf8 : IsUtf8 behind
  pub smaller : length behind < length rest
  pub made : replaced (chars old) (chars new) (chars rest)
      ≡ chars before ++ (chars new ++ replaced (chars old) (chars new) (chars behind))

pub IsStep-split : (old new rest before behind : List ℕ) → IsUtf8 rest → IsUtf8 old
    → 0 < length (chars old) → SplitsAroundMatch (FindsText old) rest before behind
    → IsStep old new rest before behind
IsStep-split old new rest before behind ur uo some found =
    let i = found.0 in
    let j = found.1 in
    let bytes : 0 < length old = some_bytes old uo some in
    let at : HasTextAt old rest i j = found.2.1 in
    let fits = utf8_front rest old i j ur uo bytes at in
    let U : List ℕ → Type 0 = IsUtf8 in
    record {
      utf8 = subst U (sym found.4) fits.1;
      smaller = omega (arith, at.ends, found.7, place_within rest old i j bytes at);
      made =
          replaced-first (chars old) (chars new) (chars rest) (chars (take i rest))
          (chars (drop j rest)) some (IsFirst-chars rest old i j ur uo bytes found.2)
          ∙ ap₂ (λ front back.
          chars front ++ (chars new ++ replaced (chars old) (chars new) (chars back)))
          (sym found.3) (sym found.4);
    }
