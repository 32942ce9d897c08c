-- What stands before a fragment, and the fragment, in a text and in its UTF-8.
use Rattle.std.proofs.Common.{◌≡◌, inl, inr, ℕ, ◌+◌, ◌<◌, ◌≤◌, Bool, true, false, not, List}
use Rattle.std.proofs.Common.{[], ◌∷◌, ◌++◌, length, drop, get_or, refl, ap, ap₂, sym, ◌∙◌}
use Rattle.std.proofs.Common.{arith, subst, encode_utf8, encode_utf8_all, length-append}
use Rattle.std.proofs.Common.{IsUtf8, IsCharBoundary, lit<}
use Rattle.std.specs.Str.{all_scalars, chars}
use Rattle.std.proofs.Math.Utf8.{scalar}
use Rattle.std.proofs.lemmas.Bool.{cases_Bool, cases_lt, and_parts, not-false, not_from_false}
use Rattle.std.proofs.lemmas.Bool.{cond-true, cond-false, eqb-true, ne_eqb}
use Rattle.std.proofs.lemmas.List.{get_or_at, drop_at}
use Rattle.std.proofs.lemmas.Str.{encode_ascii, chars-encodes, IsCharBoundary-after_ascii}
use Rattle.wap_base.specs.Cuts.{until, onward, begins_with}
use Rattle.wap_url.specs.Characters.{is_hash, is_allowed}
use Rattle.wap_url.specs.Calculation.{is_stop, front, has_bad_char}
use Rattle.wap_url.proofs.CharacterLaws.{allowed_high}
use Rattle.wap_base.proofs.Utf8Cuts.{AllHigh, high_bytes, encode_some, SameCut, cut-encodes}

pub until-onward : (p : ℕ → Bool) (xs : List ℕ) → until p xs ++ onward p xs ≡ xs
until-onward p [] = refl
until-onward p (x ∷ xs) = elim (cases_Bool (p x)) [
  | inl holds ↦
      ap₂ (λ a b. a ++ b) (cond-true (p x) [] (x ∷ until p xs) holds)
      (cond-true (p x) (x ∷ xs) (onward p xs) holds)
  | inr fails ↦
      ap₂ (λ a b. a ++ b) (cond-false (p x) [] (x ∷ until p xs) fails)
      (cond-false (p x) (x ∷ xs) (onward p xs) fails)
      ∙ ap (λ ys. x ∷ ys) (until-onward p xs)
]

stops_high : (b : ℕ) → 128 ≤ b → is_stop b ≡ true
stops_high b high = not_from_false (is_allowed b) (allowed_high b high)

-- the prefix and what follows it, by bytes
pub stop-encodes : (cs : List ℕ) → SameCut is_stop cs
stop-encodes cs = cut-encodes is_stop stops_high cs

bad_first : (bs more : List ℕ) → AllHigh bs → 0 < length bs
    → begins_with (λ c. not (is_hash c)) (bs ++ more) ≡ true
bad_first [] more high some = absurd (omega arith)
bad_first (b ∷ bs) more high some =
    not_from_false (is_hash b) (ne_eqb b 35 (λ e. differ e high.0)) where
      differ : b ≡ 35 → 128 ≤ b → ⊥
      differ e above = omega arith

begins-encodes : (cs : List ℕ)
    → begins_with (λ c. not (is_hash c)) (encode_utf8_all cs)
    ≡ begins_with (λ c. not (is_hash c)) cs
begins-encodes [] = refl
begins-encodes (c ∷ cs) = elim (cases_lt c 128) [
  | inl ascii ↦
      ap (λ bs. begins_with (λ c. not (is_hash c)) (bs ++ encode_utf8_all cs))
      (encode_ascii c ascii)
  | inr high ↦
      bad_first (encode_utf8 c) (encode_utf8_all cs) (high_bytes c high) (encode_some c)
      ∙ sym (not_from_false (is_hash c) (ne_eqb c 35 (λ e. differ e high)))
] where
  differ : c ≡ 35 → 128 ≤ c → ⊥
  differ e above = omega arith

pub bad-encodes : (cs bytes : List ℕ) → bytes ≡ encode_utf8_all cs
    → begins_with (λ c. not (is_hash c)) (onward is_stop bytes) ≡ has_bad_char cs
bad-encodes cs bytes is =
    ap (λ bs. begins_with (λ c. not (is_hash c)) (onward is_stop bs)) is
    ∙ ap (begins_with (λ c. not (is_hash c))) (stop-encodes cs).onward
    ∙ begins-encodes (onward is_stop cs)

pub front-encodes : (cs bytes : List ℕ) → bytes ≡ encode_utf8_all cs
    → until is_stop bytes ≡ front cs
front-encodes cs bytes is = ap (until is_stop) is ∙ (stop-encodes cs).until

pub scalars-onward : (p : ℕ → Bool) (cs : List ℕ) → all_scalars cs ≡ true
    → all_scalars (onward p cs) ≡ true
scalars-onward p [] text = refl
scalars-onward p (c ∷ cs) text = elim (cases_Bool (p c)) [
  | inl holds ↦ ap all_scalars (cond-true (p c) (c ∷ cs) (onward p cs) holds) ∙ text
  | inr fails ↦
      ap all_scalars (cond-false (p c) (c ∷ cs) (onward p cs) fails)
      ∙ scalars-onward p cs (and_parts (scalar c) (all_scalars cs) text).1
]

-- what follows a prefix without a bad character is nothing, or a fragment
pub record HasFragment (cs bytes : List ℕ) : Type 0 where
  pub rest : List ℕ
  pub onward_is : onward is_stop cs ≡ 35 ∷ rest
  pub bytes_is : bytes ≡ until is_stop bytes ++ 35 ∷ encode_utf8_all rest
  pub text : all_scalars rest ≡ true

hash_first : (xs : List ℕ) → begins_with (λ c. not (is_hash c)) xs ≡ false → 0 < length xs
    → (rest : List ℕ) × (xs ≡ 35 ∷ rest)
hash_first [] good some = absurd (omega arith)
hash_first (x ∷ xs) good some = (xs, ap (λ y. y ∷ xs) (eqb-true x 35 (not-false (is_hash x) good)))

pub has_fragment : (cs bytes : List ℕ) → bytes ≡ encode_utf8_all cs → all_scalars cs ≡ true
    → has_bad_char cs ≡ false → 0 < length (onward is_stop bytes) → HasFragment cs bytes
has_fragment cs bytes is text good some =
    let there =
    hash_first (onward is_stop cs) good (nonempty (onward is_stop cs)
    (subst (λ xs. 0 < length xs) (ap (onward is_stop) is ∙ (stop-encodes cs).onward) some)) in
    record {
      rest = there.0;
      onward_is = there.1;
      bytes_is =
          sym (until-onward is_stop bytes) ∙ ap (λ xs. until is_stop bytes ++ xs)
          (ap (onward is_stop) is ∙ (stop-encodes cs).onward ∙ ap encode_utf8_all there.1
          ∙ ap (λ bs. bs ++ encode_utf8_all there.0) (encode_ascii 35 (lit< tt)));
      text =
          (and_parts (scalar 35) (all_scalars there.0)
          (ap all_scalars (sym there.1) ∙ scalars-onward is_stop cs text)).1;
    } where
      nonempty : (xs : List ℕ) → 0 < length (encode_utf8_all xs) → 0 < length xs
      nonempty [] h = absurd (omega arith)
      nonempty (x ∷ xs) h = omega arith

pub no_fragment : (cs bytes : List ℕ) → bytes ≡ encode_utf8_all cs
    → length (onward is_stop bytes) ≡ 0 → onward is_stop cs ≡ []
no_fragment cs bytes is none =
    empty (onward is_stop cs)
    (ap length (sym (ap (onward is_stop) is ∙ (stop-encodes cs).onward)) ∙ none) where
      empty : (xs : List ℕ) → length (encode_utf8_all xs) ≡ 0 → xs ≡ []
      empty [] e = refl
      empty (x ∷ xs) e =
          absurd (omega (arith, encode_some x, length-append (encode_utf8 x) (encode_utf8_all xs)))

-- the text may be cut after the `#`
pub behind_hash : (cs bytes : List ℕ) → IsUtf8 bytes → HasFragment cs bytes
    → IsCharBoundary bytes (length (until is_stop bytes) + 1)
behind_hash cs bytes utf8 there =
    let at : get_or bytes (length (until is_stop bytes)) 0 ≡ 35 =
    ap (λ bs. get_or bs (length (until is_stop bytes)) 0) there.bytes_is ∙ get_or_at
    (until is_stop bytes) 35 (encode_utf8_all there.rest) 0 (length (until is_stop bytes)) refl in
    IsCharBoundary-after_ascii bytes (length (until is_stop bytes)) utf8 (omega (
      arith,
      ap length there.bytes_is,
      length-append (until is_stop bytes) (35 ∷ encode_utf8_all there.rest),
    )) (omega arith)

pub fragment_text : (cs bytes : List ℕ) (there : HasFragment cs bytes)
    → chars (drop (length (until is_stop bytes) + 1) bytes) ≡ there.rest
fragment_text cs bytes there =
    ap chars (ap (drop (length (until is_stop bytes) + 1))
    (there.bytes_is ∙ sym (Rattle.std.proofs.Common.append_assoc (until is_stop bytes) (35 ∷ [])
    (encode_utf8_all there.rest)))
    ∙ drop_at (until is_stop bytes ++ 35 ∷ []) (encode_utf8_all there.rest)
    (length (until is_stop bytes) + 1) (length-append (until is_stop bytes) (35 ∷ [])))
    ∙ chars-encodes there.rest there.text
