-- Walks over parts, one after the other.
use Rattle.std.proofs.Common.{◌≡◌, ℕ, List, [], ◌∷◌, ◌++◌, Result, Ok, Err, refl, sym, ◌∙◌}
use Rattle.std.specs.List.{flat_map}
use Rattle.wap_base.specs.Outcome.{◌>>=◌}
use Rattle.wap_scope.specs.declared.fault.ScopeFault.{ScopeFault}
use Rattle.wap_scope.specs.Names.{Mention}
use Rattle.wap_scope.specs.Faults.{Scope}
use Rattle.wap_scope.specs.inside.Walks.{each, mention_at, walked, walked_each}

-- ---- one result after the other

pub bind_bind : {A B C : Type 0} (r : Result A ScopeFault) (f : A → Result B ScopeFault)
    (g : B → Result C ScopeFault) → ((r >>= f) >>= g) ≡ (r >>= (λ x. f x >>= g))
bind_bind (Ok x) f g = refl
bind_bind (Err fault) f g = refl

pub bind_same : {A B : Type 0} (r : Result A ScopeFault) (f g : A → Result B ScopeFault) →
    ((x : A) → f x ≡ g x) → (r >>= f) ≡ (r >>= g)
bind_same (Ok x) f g is = is x
bind_same (Err fault) f g is = refl

pub bind_end : {A : Type 0} (r : Result A ScopeFault) → (r >>= (λ x. Ok x)) ≡ r
bind_end (Ok x) = refl
bind_end (Err fault) = refl

-- ---- items

pub each-append : {S X : Type 0} (step : S → X → Result S ScopeFault) (known : S) (xs ys : List X) →
    each step known (xs ++ ys) ≡ (each step known xs >>= (λ known. each step known ys))
each-append step known [] ys = refl
each-append {S} {X} step known (x ∷ xs) ys =
    bind_same (step known x) (λ (k : S). each step k (xs ++ ys))
    (λ (k : S). each step k xs >>= (λ (k : S). each step k ys)) (λ k. each-append step k xs ys)
    ∙ sym (bind_bind (step known x) (λ (k : S). each step k xs) (λ (k : S). each step k ys))

module _ (scope : Scope) where
  pub walked-append : (known : List (List ℕ)) (xs ys : List Mention) →
      walked scope known (xs ++ ys) ≡ (walked scope known xs >>= (λ known. walked scope known ys))
  walked-append known xs ys = each-append (mention_at scope) known xs ys

  pub walked-flat : {X : Type 0} (of : X → List Mention) (known : List (List ℕ)) (xs : List X) →
      walked scope known (flat_map of xs) ≡ walked_each scope of known xs
  walked-flat of known [] = refl
  walked-flat {X} of known (x ∷ xs) =
      walked-append known (of x) (flat_map of xs)
      ∙ bind_same (walked scope known (of x))
      (λ (k : List (List ℕ)). walked scope k (flat_map of xs))
      (λ (k : List (List ℕ)). walked_each scope of k xs) (λ k. walked-flat of k xs)

  -- a part, and then items
  pub walked-flat_last : {X : Type 0} (of : X → List Mention) (known : List (List ℕ))
      (ms : List Mention) (xs : List X) → walked scope known (ms ++ flat_map of xs)
      ≡ (walked scope known ms >>= (λ known. walked_each scope of known xs))
  walked-flat_last {X} of known ms xs =
      walked-append known ms (flat_map of xs)
      ∙ bind_same (walked scope known ms)
      (λ (k : List (List ℕ)). walked scope k (flat_map of xs))
      (λ (k : List (List ℕ)). walked_each scope of k xs) (λ k. walked-flat of k xs)
