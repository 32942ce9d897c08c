-- Lists of which something holds of each item.
use Rattle.std.proofs.Common.{List, [], ◌∷◌, ◌++◌, map}
use Rattle.std.specs.List.{AllByRecursion}

module _ {X : Type 0} (P : X → Type 0) where
  -- what holds of two lists holds of the first
  pub each_front : (some other : List X) → AllByRecursion P (some ++ other) → AllByRecursion P some
  each_front [] other all = tt
  each_front (x ∷ some) other all = (all.0, each_front some other all.1)

  -- and of the second
  pub each_back : (some other : List X) → AllByRecursion P (some ++ other) → AllByRecursion P other
  each_back [] other all = all
  each_back (x ∷ some) other all = each_back some other all.1

  -- what holds of two lists holds of one after the other
  pub each_both : (some other : List X) → AllByRecursion P some → AllByRecursion P other
      → AllByRecursion P (some ++ other)
  each_both [] other ones twos = twos
  each_both (x ∷ some) other ones twos = (ones.0, each_both some other ones.1 twos)

-- what holds of the images of a list
pub each_of : {X Y : Type 0} (P : Y → Type 0) (f : X → Y) (xs : List X)
    → AllByRecursion P (map f xs) → AllByRecursion (λ x. P (f x)) xs
each_of P f [] all = tt
each_of P f (x ∷ xs) all = (all.0, each_of P f xs all.1)

-- what follows of each
pub each_then : {X : Type 0} {P Q : X → Type 0} → ((x : X) → P x → Q x) → (xs : List X)
    → AllByRecursion P xs → AllByRecursion Q xs
each_then then [] all = tt
each_then then (x ∷ xs) all = (then x all.0, each_then then xs all.1)

-- what is so of everything is so of each
pub each_any : {X : Type 0} (xs : List X) → AllByRecursion (λ (x : X). Unit {0}) xs
each_any [] = tt
each_any (x ∷ xs) = (tt, each_any xs)
