-- Sets, one after the other.
use Rattle.std.proofs.Common.{◌≡◌, ℕ, List, [], ◌∷◌, ◌++◌, length, take}
use Rattle.std.proofs.Common.{refl, sym, ap, ◌∙◌, append_assoc}
use Rattle.wap_vars.specs.Variables.{Variables}
use Rattle.wap_cardrules.specs.Setting.{set_one, set_all}
use Rattle.wap_cards.specs.inputs.Stopped.{FirstStand}

pub set_after : (vars : Variables) (xs ys : List (List ℕ × List ℕ))
    → (set_all vars (xs ++ ys)).vars ≡ (set_all (set_all vars xs).vars ys).vars
set_after vars [] ys = refl
set_after vars (x ∷ xs) ys = set_after (set_one vars x).vars xs ys

pub refused_after : (vars : Variables) (xs ys : List (List ℕ × List ℕ))
    → (set_all vars (xs ++ ys)).refused
    ≡ (set_all vars xs).refused ++ (set_all (set_all vars xs).vars ys).refused
refused_after vars [] ys = refl
refused_after vars (x ∷ xs) ys =
    ap (λ more. (set_one vars x).refused ++ more) (refused_after (set_one vars x).vars xs ys)
    ∙ sym (append_assoc (set_one vars x).refused (set_all (set_one vars x).vars xs).refused
    (set_all (set_all (set_one vars x).vars xs).vars ys).refused)

take_first : (xs ys : List (List ℕ × List ℕ)) → take (length xs) (xs ++ ys) ≡ xs
take_first [] ys = refl
take_first (x ∷ xs) ys = ap (λ rest. x ∷ rest) (take_first xs ys)

-- none of them stands
pub none_stands : (vars now : Variables) (sets : List (List ℕ × List ℕ)) → now ≡ vars
    → FirstStand vars sets now
none_stands vars now sets is = (0, is)

-- the first of two lists stands
pub first_stands : (vars now : Variables) (xs ys : List (List ℕ × List ℕ))
    → now ≡ (set_all vars xs).vars → FirstStand vars (xs ++ ys) now
first_stands vars now xs ys is = (
  length xs,
  is ∙ ap (λ (sets : List (List ℕ × List ℕ)). (set_all vars sets).vars) (sym (take_first xs ys)),
)

take_all : (xs : List (List ℕ × List ℕ)) → take (length xs) xs ≡ xs
take_all [] = refl
take_all (x ∷ xs) = ap (λ rest. x ∷ rest) (take_all xs)

-- all of them stand
pub all_stand : (vars now : Variables) (sets : List (List ℕ × List ℕ))
    → now ≡ (set_all vars sets).vars → FirstStand vars sets now
all_stand vars now sets is = (
  length sets,
  is ∙ ap (λ (sets : List (List ℕ × List ℕ)). (set_all vars sets).vars) (sym (take_all sets)),
)
