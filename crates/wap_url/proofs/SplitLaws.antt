-- Lists that are cut at a separator, and joined again.
use Rattle.std.proofs.Common.{◌≡◌, ◌⊎◌, inl, inr, ℕ, ◌-◌, Bool, true, false, ◌==◌, List}
use Rattle.std.proofs.Common.{[], ◌∷◌, ◌++◌, length, refl, ap, sym, ◌∙◌, arith}
use Rattle.std.specs.List.{slice_split, join_with_byte, list_any}
use Rattle.std.proofs.lemmas.Bool.{cases_Bool, or_from, eq-eqb}
use Rattle.std.proofs.lemmas.List.{append-nil, length_push, take_at}
use Rattle.std.proofs.lemmas.List.Splits.{join_with_byte-slice_split}
use Rattle.wap_url.specs.Segments.{all_but_last, last_segment, IsPrefix, IsSuffix}
use Rattle.wap_base.proofs.Splits.{HasFirst-split, split-append, split-none, join-append}

-- the last separator
pub record CutLast (p : ℕ → Bool) (xs : List ℕ) : Type 0 where
  pub lead : List ℕ
  pub at : ℕ
  pub last : List ℕ
  pub is : xs ≡ lead ++ at ∷ last
  pub passes : p at ≡ true
  pub none : list_any p last ≡ false

pub cut_last : (p : ℕ → Bool) (xs : List ℕ) → (list_any p xs ≡ false) ⊎ CutLast p xs
cut_last p [] = inl refl
cut_last p (x ∷ xs) = elim (cut_last p xs) [
  | inl none ↦ elim (cases_Bool (p x)) [
    | inl holds ↦
        inr (record { lead = []; at = x; last = xs; is = refl; passes = holds; none = none })
    | inr fails ↦ inl (or_from (p x) (list_any p xs) fails none)
  ]
  | inr cut ↦ inr (record {
    lead = x ∷ cut.lead;
    at = cut.at;
    last = cut.last;
    is = ap (λ ys. x ∷ ys) cut.is;
    passes = cut.passes;
    none = cut.none;
  })
]

-- the parts, where the last separator is known
pub split-cut : (p : ℕ → Bool) (lead : List ℕ) (y : ℕ) (last : List ℕ) → p y ≡ true
    → list_any p last ≡ false → slice_split p (lead ++ y ∷ last) ≡ slice_split p lead ++ last ∷ []
split-cut p lead y last holds none =
    split-append p lead y last holds
    ∙ ap (λ parts. slice_split p lead ++ parts) (split-none p last none)

pub all_but_last-push : {X : Type 0} (xs : List X) (y : X) → all_but_last (xs ++ y ∷ []) ≡ xs
all_but_last-push xs y =
    take_at xs (y ∷ []) (length (xs ++ y ∷ []) - 1) (omega (arith, length_push xs y))

pub last_segment-push : (xs : List (List ℕ)) (y : List ℕ) → last_segment (xs ++ y ∷ []) ≡ y
last_segment-push [] y = refl
last_segment-push (x ∷ []) y = refl
last_segment-push (x ∷ z ∷ xs) y = last_segment-push (z ∷ xs) y

-- The parts of one list end the parts of another just where it ends the other at a separator.
pub suffix_from_parts : (c : ℕ) (part whole : List ℕ)
    → IsSuffix (slice_split (λ b. b == c) part) (slice_split (λ b. b == c) whole)
    → (whole ≡ part) ⊎ ((lead : List ℕ) × (whole ≡ lead ++ c ∷ part))
suffix_from_parts c part whole (lead, is) =
    from_lead lead (sym (join_with_byte-slice_split c whole) ∙ ap (join_with_byte c) is) where
      from_lead : (lead : List (List ℕ))
          → whole ≡ join_with_byte c (lead ++ slice_split (λ b. b == c) part)
          → (whole ≡ part) ⊎ ((lead : List ℕ) × (whole ≡ lead ++ c ∷ part))
      from_lead [] e = inl (e ∙ join_with_byte-slice_split c part)
      from_lead (l ∷ ls) e = inr (
        join_with_byte c (l ∷ ls),
        e
            ∙ join-append c (l ∷ ls) (slice_split (λ b. b == c) part)
            (record { first = l; rest = ls; is = refl }) (HasFirst-split (λ b. b == c) part)
            ∙ ap (λ rest. join_with_byte c (l ∷ ls) ++ c ∷ rest)
            (join_with_byte-slice_split c part),
      )

pub suffix_same : (c : ℕ) (part whole : List ℕ) → whole ≡ part
    → IsSuffix (slice_split (λ b. b == c) part) (slice_split (λ b. b == c) whole)
suffix_same c part whole e = ([], ap (slice_split (λ b. b == c)) e)

pub suffix_after : (c : ℕ) (part whole lead : List ℕ) → whole ≡ lead ++ c ∷ part
    → IsSuffix (slice_split (λ b. b == c) part) (slice_split (λ b. b == c) whole)
suffix_after c part whole lead e = (
  slice_split (λ b. b == c) lead,
  ap (slice_split (λ b. b == c)) e ∙ split-append (λ b. b == c) lead c part (eq-eqb c c refl),
)

-- The same of a prefix.
pub prefix_from_parts : (c : ℕ) (part whole : List ℕ)
    → IsPrefix (slice_split (λ b. b == c) part) (slice_split (λ b. b == c) whole)
    → (whole ≡ part) ⊎ ((rest : List ℕ) × (whole ≡ part ++ c ∷ rest))
prefix_from_parts c part whole (rest, is) =
    from_rest rest (sym (join_with_byte-slice_split c whole) ∙ ap (join_with_byte c) is) where
      from_rest : (rest : List (List ℕ))
          → whole ≡ join_with_byte c (slice_split (λ b. b == c) part ++ rest)
          → (whole ≡ part) ⊎ ((rest : List ℕ) × (whole ≡ part ++ c ∷ rest))
      from_rest [] e =
          inl (e ∙ ap (join_with_byte c) (append-nil (slice_split (λ b. b == c) part))
          ∙ join_with_byte-slice_split c part)
      from_rest (l ∷ ls) e = inr (
        join_with_byte c (l ∷ ls),
        e
            ∙ join-append c (slice_split (λ b. b == c) part) (l ∷ ls)
            (HasFirst-split (λ b. b == c) part) (record { first = l; rest = ls; is = refl })
            ∙ ap (λ front. front ++ c ∷ join_with_byte c (l ∷ ls))
            (join_with_byte-slice_split c part),
      )

pub prefix_same : (c : ℕ) (part whole : List ℕ) → whole ≡ part
    → IsPrefix (slice_split (λ b. b == c) part) (slice_split (λ b. b == c) whole)
prefix_same c part whole e =
    ([], ap (slice_split (λ b. b == c)) e ∙ sym (append-nil (slice_split (λ b. b == c) part)))

pub prefix_before : (c : ℕ) (part whole rest : List ℕ) → whole ≡ part ++ c ∷ rest
    → IsPrefix (slice_split (λ b. b == c) part) (slice_split (λ b. b == c) whole)
prefix_before c part whole rest e = (
  slice_split (λ b. b == c) rest,
  ap (slice_split (λ b. b == c)) e ∙ split-append (λ b. b == c) part c rest (eq-eqb c c refl),
)
