-- What is found in a list, where a test by pairs holds of it.
use Rattle.std.proofs.Common.{◌≡◌, Bool, true, ◌&&◌, List, [], ◌∷◌, Some, None, ◌⊎◌}
use Rattle.std.proofs.Common.{inl, inr, sym, ◌∙◌, ap, subst, find, ℕ, ◌+◌, ◌<◌, ◌++◌}
use Rattle.std.proofs.Common.{length, take, filter, slice_index_or, Option, refl}
use Rattle.std.specs.List.{list_all, last_or}
use Rattle.std.proofs.lemmas.Bool.{cases_Bool, and_parts, cond-true, cond-false, both_ways}
use Rattle.std.proofs.lemmas.Option.{same_Some, none-some}
use Rattle.std.proofs.lemmas.List.Elements.{filter_more}
use Rattle.wap_asm.specs.Exact.{Among}

-- whether q holds of each with each that comes after it
abbrev pub each_pair : {X : Type 0} → (X → X → Bool) → List X → Bool
each_pair q [] = true
each_pair q (x ∷ xs) = list_all (q x) xs && each_pair q xs

pub all_among : {X : Type 0} (p : X → Bool) (xs : List X) (x : X) → list_all p xs ≡ true
    → Among x xs → p x ≡ true
all_among p [] x all among = absurd among
all_among p (y ∷ ys) x all (inl same) =
    subst (λ z. p z ≡ true) (sym same) (and_parts (p y) (list_all p ys) all).0
all_among p (y ∷ ys) x all (inr later) =
    all_among p ys x (and_parts (p y) (list_all p ys) all).1 later

pub found : {X : Type 0} (p : X → Bool) (xs : List X) (x : X) → find p xs ≡ Some x
    → (p x ≡ true) × Among x xs
found p [] x e = absurd (none-some x e)
found p (y ∷ ys) x e =
    elim (cases_Bool (p y)) [
      | inl is ↦
          let same = same_Some y x (sym (cond-true (p y) _ _ is) ∙ e) in
          (subst (λ z. p z ≡ true) same is, inl (sym same))
      | inr isnt ↦
          let later = found p ys x (sym (cond-false (p y) _ _ isnt) ∙ e) in
          (later.0, inr later.1)
    ]

-- where no two pass, the one that passes is found
pub finds : {X : Type 0} (p : X → Bool) (apart : X → X → Bool)
    → ((x y : X) → apart x y ≡ true → p x ≡ true → p y ≡ true → ⊥) → (xs : List X) (x : X)
    → each_pair apart xs ≡ true → Among x xs → p x ≡ true → find p xs ≡ Some x
finds p apart only [] x all among is = absurd among
finds p apart only (y ∷ ys) x all (inl same) is =
    cond-true (p y) _ _ (subst (λ z. p z ≡ true) same is) ∙ ap Some (sym same)
finds p apart only (y ∷ ys) x all (inr later) is =
    let parts = and_parts (list_all (apart y) ys) (each_pair apart ys) all in
    elim (cases_Bool (p y)) [
      | inl also ↦ absurd (only y x (all_among (apart y) ys x parts.0 later) also is)
      | inr isnt ↦ cond-false (p y) _ _ isnt ∙ finds p apart only ys x parts.1 later is
    ]

-- the one that is found has q to each other that passes
pub found_first : {X : Type 0} (p : X → Bool) (q : X → X → Bool) (xs : List X) (x y : X)
    → each_pair q xs ≡ true → find p xs ≡ Some x → Among y xs → p y ≡ true
    → (y ≡ x) ⊎ (q x y ≡ true)
found_first p q [] x y all e among is = absurd among
found_first p q (z ∷ zs) x y all e among is =
    let parts = and_parts (list_all (q z) zs) (each_pair q zs) all in
    elim (cases_Bool (p z)) [
      | inl also ↦
          let same = same_Some z x (sym (cond-true (p z) _ _ also) ∙ e) in
          elim among [
            | inl head ↦ inl (head ∙ same)
            | inr later ↦ inr (subst (λ w. q w y ≡ true) same (all_among (q z) zs y parts.0 later))
          ]
      | inr isnt ↦
          elim among [
            | inl head ↦ absurd (both_ways (p z) isnt (subst (λ w. p w ≡ true) head is))
            | inr later ↦
                found_first p q zs x y parts.1 (sym (cond-false (p z) _ _ isnt) ∙ e) later is
          ]
    ]

last_added : {X : Type 0} (o : Option X) (xs : List X) (x : X) → last_or o (xs ++ x ∷ []) ≡ Some x
last_added o [] x = refl
last_added o (y ∷ ys) x = last_added (Some y) ys x

-- the last that passes of the first so many is the one right before their end, where it passes
pub last_passing : {X : Type 0} (p : X → Bool) (xs : List X) (i j : ℕ) (d : X) → i ≡ j + 1
    → j < length xs → p (slice_index_or xs j d) ≡ true
    → last_or None (filter p (take i xs)) ≡ Some (slice_index_or xs j d)
last_passing p xs i j d next within is =
    ap (λ k. last_or None (filter p (take k xs))) next
    ∙ ap (last_or None) (filter_more p xs j d within)
    ∙ ap (λ ys. last_or None (filter p (take j xs) ++ ys)) (cond-true _ _ _ is)
    ∙ last_added None (filter p (take j xs)) (slice_index_or xs j d)
