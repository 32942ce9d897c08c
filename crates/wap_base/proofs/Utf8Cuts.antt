-- A text's UTF-8 is cut where its characters are, at characters of US-ASCII.
use Rattle.std.proofs.Common.{◌≡◌, ℕ, suc, zero, ◌<◌, ◌≤◌, subst, take, length-append, Bool}
use Rattle.std.proofs.Common.{true, false, cond, ◌==◌, List, [], ◌∷◌, ◌++◌, length, map}
use Rattle.std.proofs.Common.{refl, ap, ap₂, sym, ◌∙◌, inl, inr, arith, encode_utf8}
use Rattle.std.proofs.Common.{encode_utf8_all, get_or, append-nil}
use Rattle.std.specs.List.{slice_split, onto_first, list_any}
use Rattle.std.specs.Char.{to_ascii_lowercase}
use Rattle.std.specs.Str.{all_scalars, chars}
use Rattle.std.proofs.lemmas.Bool.{cases_Bool, cases_lt, cond-true, cond-false, eqb-true}
use Rattle.std.proofs.lemmas.Bool.{ne_eqb, and_from, or_parts, or_from, and_parts}
use Rattle.std.proofs.lemmas.List.Splits.{slice_split-cons_yes, slice_split-cons_no}
use Rattle.std.proofs.lemmas.List.{map-append}
use Rattle.std.proofs.Math.Utf8.{scalar, low_scalar}
use Rattle.std.proofs.lemmas.Str.{encode_ascii, inside_one, chars-encodes}
use Rattle.std.proofs.lemmas.Str.Ascii.{lowercase_is, lowercase_ascii}
use Rattle.wap_base.specs.Cuts.{until, onward}
use Rattle.wap_base.proofs.Splits.{HasFirst, HasFirst-split}

-- each number is past US-ASCII
abbrev pub AllHigh : List ℕ → Type 0
AllHigh [] = Unit {0}
AllHigh (b ∷ bs) = (128 ≤ b) × AllHigh bs

all_high : (bs : List ℕ) → ((k : ℕ) → k < length bs → 128 ≤ get_or bs k 0) → AllHigh bs
all_high [] each = tt
all_high (b ∷ bs) each =
    (each 0 (omega arith), all_high bs (λ k within. each (suc k) (omega arith)))

-- the bytes of a character past US-ASCII
pub high_bytes : (c : ℕ) → 128 ≤ c → AllHigh (encode_utf8 c)
high_bytes c high =
    all_high (encode_utf8 c) (λ k within. elim (cases_lt (get_or (encode_utf8 c) k 0) 128) [
      | inl low ↦
          absurd
          (differ
          (inside_one c [] (encode_utf8 c) k (sym (append-nil (encode_utf8 c))) within low) low)
      | inr fine ↦ fine
    ]) where
      differ : {b : ℕ} → c ≡ b → b < 128 → ⊥
      differ e low = omega arith

-- bytes before a part
onto : List ℕ → List (List ℕ) → List (List ℕ)
onto [] parts = parts
onto (b ∷ bs) parts = onto_first b (onto bs parts)

onto-first : (bs part : List ℕ) (parts : List (List ℕ))
    → onto bs (part ∷ parts) ≡ (bs ++ part) ∷ parts
unfolding onto
onto-first [] part parts = refl
onto-first (b ∷ bs) part parts = ap (onto_first b) (onto-first bs part parts)

split-onto : (p : ℕ → Bool) (bs more : List ℕ) → list_any p bs ≡ false
    → slice_split p (bs ++ more) ≡ onto bs (slice_split p more)
unfolding onto
split-onto p [] more none = refl
split-onto p (b ∷ bs) more none =
    let parts = or_parts (p b) (list_any p bs) none in
    slice_split-cons_no p b (bs ++ more) parts.0 ∙ ap (onto_first b) (split-onto p bs more parts.1)

map_onto_first : (c : ℕ) (parts : List (List ℕ)) → HasFirst parts
    → onto (encode_utf8 c) (map encode_utf8_all parts) ≡ map encode_utf8_all (onto_first c parts)
map_onto_first c [] h = absurd (let e = h.is in cc)
map_onto_first c (part ∷ parts) h =
    onto-first (encode_utf8 c) (encode_utf8_all part) (map encode_utf8_all parts)

-- no byte of another character is the separator
pub none_high : (sep : ℕ) → sep < 128 → (bs : List ℕ) → AllHigh bs
    → list_any (λ b. b == sep) bs ≡ false
none_high sep low [] high = refl
none_high sep low (b ∷ bs) high =
    or_from (b == sep) (list_any (λ b. b == sep) bs) (ne_eqb b sep (λ e. differ e high.0))
    (none_high sep low bs high.1) where
      differ : b ≡ sep → 128 ≤ b → ⊥
      differ e above = omega arith

pub none_inside : (sep c : ℕ) → sep < 128 → (c == sep) ≡ false
    → list_any (λ b. b == sep) (encode_utf8 c) ≡ false
none_inside sep c low other = elim (cases_lt c 128) [
  | inl ascii ↦
      ap (list_any (λ b. b == sep)) (encode_ascii c ascii) ∙ or_from (c == sep) false other refl
  | inr high ↦ none_high sep low (encode_utf8 c) (high_bytes c high)
]

pub split-encodes : (sep : ℕ) → sep < 128 → (cs : List ℕ)
    → slice_split (λ b. b == sep) (encode_utf8_all cs)
    ≡ map encode_utf8_all (slice_split (λ b. b == sep) cs)
split-encodes sep low [] = refl
split-encodes sep low (c ∷ cs) = elim (cases_Bool (c == sep)) [
  | inl here ↦
      ap (slice_split (λ b. b == sep))
      (ap (λ bs. bs ++ encode_utf8_all cs) (encode_ascii c (small (eqb-true c sep here))))
      ∙ slice_split-cons_yes (λ b. b == sep) c (encode_utf8_all cs) here
      ∙ ap (λ parts. [] ∷ parts) (split-encodes sep low cs)
      ∙ ap (map encode_utf8_all) (sym (slice_split-cons_yes (λ b. b == sep) c cs here))
  | inr other ↦
      split-onto (λ b. b == sep) (encode_utf8 c) (encode_utf8_all cs) (none_inside sep c low other)
      ∙ ap (onto (encode_utf8 c)) (split-encodes sep low cs)
      ∙ map_onto_first c (slice_split (λ b. b == sep) cs) (HasFirst-split (λ b. b == sep) cs)
      ∙ ap (map encode_utf8_all) (sym (slice_split-cons_no (λ b. b == sep) c cs other))
] where
  small : c ≡ sep → c < 128
  small e = omega arith

-- lower case, of characters and of bytes
lower_high : (bs : List ℕ) → AllHigh bs → map to_ascii_lowercase bs ≡ bs
lower_high [] high = refl
lower_high (b ∷ bs) high =
    ap₂ (λ x xs. x ∷ xs) ((lowercase_is b).2 (omega (arith, high.0))) (lower_high bs high.1)

lower_one : (c : ℕ) → map to_ascii_lowercase (encode_utf8 c) ≡ encode_utf8 (to_ascii_lowercase c)
lower_one c = elim (cases_lt c 128) [
  | inl ascii ↦
      ap (map to_ascii_lowercase) (encode_ascii c ascii)
      ∙ sym (encode_ascii (to_ascii_lowercase c) (lowercase_ascii c ascii))
  | inr high ↦
      lower_high (encode_utf8 c) (high_bytes c high)
      ∙ ap encode_utf8 (sym ((lowercase_is c).2 (omega arith)))
]

pub lower-encodes : (cs : List ℕ)
    → map to_ascii_lowercase (encode_utf8_all cs) ≡ encode_utf8_all (map to_ascii_lowercase cs)
lower-encodes [] = refl
lower-encodes (c ∷ cs) =
    map-append to_ascii_lowercase (encode_utf8 c) (encode_utf8_all cs)
    ∙ ap₂ (λ x y. x ++ y) (lower_one c) (lower-encodes cs)

-- a text is cut at the first character that passes, where each past US-ASCII does
until_high : (p : ℕ → Bool) → ((b : ℕ) → 128 ≤ b → p b ≡ true) → (bs more : List ℕ) → AllHigh bs
    → 0 < length bs → (until p (bs ++ more) ≡ []) × (onward p (bs ++ more) ≡ bs ++ more)
until_high p all [] more high some = absurd (omega arith)
until_high p all (b ∷ bs) more high some = (
  cond-true (p b) [] (b ∷ until p (bs ++ more)) (all b high.0),
  cond-true (p b) (b ∷ (bs ++ more)) (onward p (bs ++ more)) (all b high.0),
)

pub encode_some : (c : ℕ) → 0 < length (encode_utf8 c)
encode_some c = omega (
  arith,
  Rattle.std.proofs.lemmas.Str.length-encode c,
  (Rattle.std.proofs.lemmas.Str.len_utf8_bounds c).0,
)

pub record SameCut (p : ℕ → Bool) (cs : List ℕ) : Type 0 where
  pub until : until p (encode_utf8_all cs) ≡ until p cs
  pub onward : onward p (encode_utf8_all cs) ≡ encode_utf8_all (onward p cs)

pub cut-encodes : (p : ℕ → Bool) → ((b : ℕ) → 128 ≤ b → p b ≡ true) → (cs : List ℕ) → SameCut p cs
cut-encodes p all [] = record { until = refl; onward = refl }
cut-encodes p all (c ∷ cs) = elim (cases_lt c 128) [
  | inl ascii ↦ let same = cut-encodes p all cs in
      let front = ap (λ bs. bs ++ encode_utf8_all cs) (encode_ascii c ascii) in
      record {
        until = ap (until p) front ∙ ap (λ rest. cond (p c) [] (c ∷ rest)) same.until;
        onward = ap (onward p) front ∙ elim (cases_Bool (p c)) [
          | inl holds ↦
              cond-true (p c) (c ∷ encode_utf8_all cs) (onward p (encode_utf8_all cs)) holds
              ∙ sym front ∙ ap encode_utf8_all (sym (cond-true (p c) (c ∷ cs) (onward p cs) holds))
          | inr fails ↦
              cond-false (p c) (c ∷ encode_utf8_all cs) (onward p (encode_utf8_all cs)) fails
              ∙ same.onward
              ∙ ap encode_utf8_all (sym (cond-false (p c) (c ∷ cs) (onward p cs) fails))
        ];
      }
  | inr high ↦
      let same =
      until_high p all (encode_utf8 c) (encode_utf8_all cs) (high_bytes c high) (encode_some c) in
      record {
        until = same.0 ∙ sym (cond-true (p c) [] (c ∷ until p cs) (all c high));
        onward =
            same.1 ∙ ap encode_utf8_all (sym (cond-true (p c) (c ∷ cs) (onward p cs) (all c high)));
      }
]

-- lists of texts
abbrev pub AllText : List (List ℕ) → Type 0
AllText [] = Unit {0}
AllText (part ∷ parts) = (all_scalars part ≡ true) × AllText parts

AllText-onto : (c : ℕ) (parts : List (List ℕ)) → scalar c ≡ true → AllText parts
    → AllText (onto_first c parts)
AllText-onto c [] one each = (and_from (scalar c) true one refl, tt)
AllText-onto c (part ∷ parts) one each = (and_from (scalar c) (all_scalars part) one each.0, each.1)

pub AllText-split : (p : ℕ → Bool) (cs : List ℕ) → all_scalars cs ≡ true
    → AllText (slice_split p cs)
AllText-split p [] scalars = (refl, tt)
AllText-split p (c ∷ cs) scalars =
    let parts = and_parts (scalar c) (all_scalars cs) scalars in
    elim (cases_Bool (p c)) [
      | inl holds ↦
          subst AllText (sym (slice_split-cons_yes p c cs holds)) (refl, AllText-split p cs parts.1)
      | inr fails ↦
          subst AllText (sym (slice_split-cons_no p c cs fails))
          (AllText-onto c (slice_split p cs) parts.0 (AllText-split p cs parts.1))
    ]

pub AllText-take : (n : ℕ) (parts : List (List ℕ)) → AllText parts → AllText (take n parts)
AllText-take zero parts each = tt
AllText-take (suc n) [] each = tt
AllText-take (suc n) (part ∷ parts) each = (each.0, AllText-take n parts each.1)

pub chars-map : (parts : List (List ℕ)) → AllText parts
    → map chars (map encode_utf8_all parts) ≡ parts
chars-map [] each = refl
chars-map (part ∷ parts) each =
    ap₂ (λ x xs. x ∷ xs) (chars-encodes part each.0) (chars-map parts each.1)

-- lower case keeps a text a text
pub scalars-lower : (cs : List ℕ) → all_scalars cs ≡ true
    → all_scalars (map to_ascii_lowercase cs) ≡ true
scalars-lower [] scalars = refl
scalars-lower (c ∷ cs) scalars =
    let parts = and_parts (scalar c) (all_scalars cs) scalars in
    and_from (scalar (to_ascii_lowercase c)) (all_scalars (map to_ascii_lowercase cs)) (one parts.0)
    (scalars-lower cs parts.1) where
      one : scalar c ≡ true → scalar (to_ascii_lowercase c) ≡ true
      one holds = elim (cases_lt c 128) [
        | inl ascii ↦ low_scalar (to_ascii_lowercase c) (omega (arith, lowercase_ascii c ascii))
        | inr high ↦ ap scalar ((lowercase_is c).2 (omega arith)) ∙ holds
      ]

pub no_bytes : (cs : List ℕ) → (length (encode_utf8_all cs) == 0) ≡ (length cs == 0)
no_bytes [] = refl
no_bytes (c ∷ cs) =
    ne_eqb (length (encode_utf8_all (c ∷ cs))) 0
    (λ e. absurd (omega (arith, encode_some c, length-append (encode_utf8 c) (encode_utf8_all cs))))
    ∙ sym (ne_eqb (length (c ∷ cs)) 0 (λ e. absurd (omega arith)))
