-- What holds of the items passed.
use Rattle.std.proofs.Common.{◌≡◌, ℕ, suc, ◌+◌, ◌<◌, Bool, true, false, List, length}
use Rattle.std.proofs.Common.{drop, get_or, sym, ap, ◌∙◌, arith}
use Rattle.std.specs.Prelude.{◌&&◌}
use Rattle.std.specs.List.{list_all}
use Rattle.std.proofs.Math.Seq.{drop-cons}

module _ {A : Type 0} (p : A → Bool) (xs : List A) where
  pub passed : (i : ℕ) (other : A) (tested : Bool) → i < length xs
      → list_all p (drop i xs) ≡ list_all p xs
      → tested ≡ p (get_or xs i other) → true ≡ tested
      → list_all p (drop (i + 1) xs) ≡ list_all p xs
  passed i other tested within left is here =
      let next : i + 1 ≡ suc i = omega arith in
      ap (λ (n : ℕ). list_all p (drop n xs)) next
      ∙ ap (λ (b : Bool). b && list_all p (drop (suc i) xs)) (here ∙ is)
      ∙ sym (ap (list_all p) (drop-cons xs i other within))
      ∙ left

  pub failed : (i : ℕ) (other : A) → i < length xs → list_all p (drop i xs) ≡ list_all p xs
      → false ≡ p (get_or xs i other) → false ≡ list_all p xs
  failed i other within left fails =
      ap (λ (b : Bool). b && list_all p (drop (suc i) xs)) fails
      ∙ sym (ap (list_all p) (drop-cons xs i other within))
      ∙ left
