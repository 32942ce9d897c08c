-- Tests of all and of some.
use Rattle.std.proofs.Common.{◌≡◌, Bool, true, false, not, ◌&&◌, ◌||◌, List}
use Rattle.std.proofs.Common.{[], ◌∷◌, refl, sym, ap, ◌∙◌}
use Rattle.std.specs.List.{list_any, list_all}
use mathlib.Core.Bool.{and-false}

and_swap : (a b c d : Bool) → ((a && b) && (c && d)) ≡ ((a && c) && (b && d))
and_swap true true c d = refl
and_swap true false c d = sym (and-false c)
and_swap false b c d = refl

not_or : (a b : Bool) → (not a && not b) ≡ not (a || b)
not_or true b = refl
not_or false b = refl

not_and_or : (a b c : Bool) → (not (a && b) && not (b && c)) ≡ not (b && (a || c))
not_and_or true true c = refl
not_and_or true false c = refl
not_and_or false true c = refl
not_and_or false false c = refl

module _ {X : Type 0} where
  pub all_and : (p q : X → Bool) (xs : List X)
      → list_all (λ x. p x && q x) xs ≡ (list_all p xs && list_all q xs)
  all_and p q [] = refl
  all_and p q (x ∷ xs) =
      ap (λ b. (p x && q x) && b) (all_and p q xs)
      ∙ and_swap (p x) (q x) (list_all p xs) (list_all q xs)

  pub all_or : (b : Bool) (p : X → Bool) (xs : List X)
      → list_all (λ x. b || p x) xs ≡ (b || list_all p xs)
  all_or false p xs = refl
  all_or true p [] = refl
  all_or true p (x ∷ xs) = all_or true p xs

  pub all_not : (p : X → Bool) (xs : List X) → list_all (λ x. not (p x)) xs ≡ not (list_any p xs)
  all_not p [] = refl
  all_not p (x ∷ xs) = ap (λ b. not (p x) && b) (all_not p xs) ∙ not_or (p x) (list_any p xs)

  -- none of them has what b has, if b has it at all
  pub all_apart : (b : Bool) (p : X → Bool) (xs : List X)
      → list_all (λ x. not (p x && b)) xs ≡ not (b && list_any p xs)
  all_apart true p [] = refl
  all_apart false p [] = refl
  all_apart b p (x ∷ xs) =
      ap (λ c. not (p x && b) && c) (all_apart b p xs) ∙ not_and_or (p x) b (list_any p xs)

all_true : {X : Type 0} → (xs : List X) → list_all (λ x. true) xs ≡ true
all_true [] = refl
all_true (x ∷ xs) = all_true xs

pub all_all : {X Y : Type 0} (r : X → Y → Bool) (xs : List X) (ys : List Y)
    → list_all (λ x. list_all (r x) ys) xs ≡ list_all (λ y. list_all (λ x. r x y) xs) ys
all_all r xs [] = all_true xs
all_all r xs (y ∷ ys) =
    all_and (λ x. r x y) (λ x. list_all (r x) ys) xs
    ∙ ap (λ b. list_all (λ x. r x y) xs && b) (all_all r xs ys)

pub all_same : {X : Type 0} (p q : X → Bool) → ((x : X) → p x ≡ q x) → (xs : List X)
    → list_all p xs ≡ list_all q xs
all_same p q same [] = refl
all_same p q same (x ∷ xs) =
    ap (λ b. b && list_all p xs) (same x) ∙ ap (λ b. q x && b) (all_same p q same xs)
