-- Lists that are cut at a separator, and joined again.
use Rattle.std.proofs.Common.{◌≡◌, inl, inr, ℕ, Bool, true, false, List, [], ◌∷◌}
use Rattle.std.proofs.Common.{◌++◌, refl, ap, sym, ◌∙◌, append_assoc}
use Rattle.std.specs.List.{slice_split, onto_first, join_with_byte, list_any}
use Rattle.std.proofs.lemmas.Bool.{cases_Bool, or_parts}
use Rattle.std.proofs.lemmas.List.Splits.{slice_split-cons_yes, slice_split-cons_no}

-- there is always a first part
pub record HasFirst {X : Type 0} (parts : List X) : Type 0 where
  pub first : X
  pub rest : List X
  pub is : parts ≡ first ∷ rest

pub HasFirst-onto : (x : ℕ) (parts : List (List ℕ)) → HasFirst (onto_first x parts)
HasFirst-onto x [] = record { first = x ∷ []; rest = []; is = refl }
HasFirst-onto x (part ∷ parts) = record { first = x ∷ part; rest = parts; is = refl }

pub HasFirst-split : (p : ℕ → Bool) (xs : List ℕ) → HasFirst (slice_split p xs)
HasFirst-split p [] = record { first = []; rest = []; is = refl }
HasFirst-split p (x ∷ xs) = elim (cases_Bool (p x)) [
  | inl holds ↦
      record { first = []; rest = slice_split p xs; is = slice_split-cons_yes p x xs holds }
  | inr fails ↦
      let h = HasFirst-onto x (slice_split p xs) in
      record { first = h.first; rest = h.rest; is = slice_split-cons_no p x xs fails ∙ h.is }
]

onto_first-append : (x : ℕ) (parts more : List (List ℕ)) → HasFirst parts
    → onto_first x (parts ++ more) ≡ onto_first x parts ++ more
onto_first-append x [] more h = absurd (let e = h.is in cc)
onto_first-append x (part ∷ parts) more h = refl

-- the parts on both sides of a separator
pub split-append : (p : ℕ → Bool) (xs : List ℕ) (y : ℕ) (ys : List ℕ) → p y ≡ true
    → slice_split p (xs ++ y ∷ ys) ≡ slice_split p xs ++ slice_split p ys
split-append p [] y ys holds = slice_split-cons_yes p y ys holds
split-append p (x ∷ xs) y ys holds = elim (cases_Bool (p x)) [
  | inl here ↦
      slice_split-cons_yes p x (xs ++ y ∷ ys) here
      ∙ ap (λ parts. [] ∷ parts) (split-append p xs y ys holds)
      ∙ ap (λ parts. parts ++ slice_split p ys) (sym (slice_split-cons_yes p x xs here))
  | inr fails ↦
      slice_split-cons_no p x (xs ++ y ∷ ys) fails
      ∙ ap (onto_first x) (split-append p xs y ys holds)
      ∙ onto_first-append x (slice_split p xs) (slice_split p ys) (HasFirst-split p xs)
      ∙ ap (λ parts. parts ++ slice_split p ys) (sym (slice_split-cons_no p x xs fails))
]

-- without a separator there is one part
pub split-none : (p : ℕ → Bool) (xs : List ℕ) → list_any p xs ≡ false → slice_split p xs ≡ xs ∷ []
split-none p [] none = refl
split-none p (x ∷ xs) none =
    let parts = or_parts (p x) (list_any p xs) none in
    slice_split-cons_no p x xs parts.0 ∙ ap (onto_first x) (split-none p xs parts.1)

-- two lists of parts, joined
pub join-append : (c : ℕ) (xs ys : List (List ℕ)) → HasFirst xs → HasFirst ys
    → join_with_byte c (xs ++ ys) ≡ join_with_byte c xs ++ c ∷ join_with_byte c ys
join-append c [] ys h k = absurd (let e = h.is in cc)
join-append c (x ∷ []) [] h k = absurd (let e = k.is in cc)
join-append c (x ∷ []) (y ∷ ys) h k = refl
join-append c (x ∷ z ∷ xs) ys h k =
    ap (λ rest. x ++ c ∷ rest)
    (join-append c (z ∷ xs) ys (record { first = z; rest = xs; is = refl }) k)
    ∙ sym (append_assoc x (c ∷ join_with_byte c (z ∷ xs)) (c ∷ join_with_byte c ys))
