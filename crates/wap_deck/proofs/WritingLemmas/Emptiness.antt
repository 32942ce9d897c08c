-- Whether lists that other lists give have an item.
use Rattle.std.proofs.Common.{◌≡◌, ℕ, zero, suc, ◌+◌, ◌<◌, Bool, true, false, not, ◌||◌}
use Rattle.std.proofs.Common.{List, [], ◌∷◌, ◌++◌, length, drop, get_or, map, Option}
use Rattle.std.proofs.Common.{Some, None, refl, sym, ap, ◌∙◌, arith}
use Rattle.std.specs.Prelude.{IsTrue, ◌↔◌}
use Rattle.std.specs.List.{flat_map}
use Rattle.std.proofs.Math.Seq.{drop-cons}
use Rattle.wap_base.specs.declared.name.Part.TheVariants.{Lit}
use Rattle.wap_tokens.specs.markup.Writing.{run_before, runs_of, run_kid, part_kids}
use Rattle.wap_deck.specs.writing.inside.WrittenTexts.{has_any}

-- ---- a literal

run_first : (c : ℕ) (runs : List (Option (List ℕ)))
    → has_any (map run_kid (run_before c runs)) ≡ true
run_first c [] = refl
run_first c (None ∷ runs) = refl
run_first c (Some text ∷ runs) = refl

character_gives : (c : ℕ) (cs : List ℕ) → has_any (part_kids (Lit (c ∷ cs))) ≡ true
character_gives zero cs = refl
character_gives (suc c) cs = run_first (suc c) (runs_of cs)

pub literal_gives : (empty : Bool) (text : List ℕ) → IsTrue empty ↔ (text ≡ [])
    → not empty ≡ has_any (part_kids (Lit text))
literal_gives true text are =
    ap (λ (text : List ℕ). has_any (part_kids (Lit text))) (sym (are.0 refl))
literal_gives false [] are = absurd (never (are.1 refl)) where
  never : IsTrue false → ⊥
  never e = cc
literal_gives false (c ∷ cs) are = sym (character_gives c cs)

-- ---- lists

some_append : {A : Type 0} (xs ys : List A) → has_any (xs ++ ys) ≡ (has_any xs || has_any ys)
some_append [] ys = refl
some_append (x ∷ xs) ys = refl

module _ {A B : Type 0} (gives : A → List B) (xs : List A) where
  step : (i : ℕ) (x : A) → i < length xs → x ≡ get_or xs i x
      → has_any (flat_map gives (drop i xs))
      ≡ (has_any (gives x) || has_any (flat_map gives (drop (i + 1) xs)))
  step i x within is =
      let next : suc i ≡ i + 1 = omega arith in
      ap (λ (l : List A). has_any (flat_map gives l)) (drop-cons xs i x within)
      ∙ ap (λ (y : A). has_any (flat_map gives (y ∷ drop (suc i) xs))) (sym is)
      ∙ some_append (gives x) (flat_map gives (drop (suc i) xs))
      ∙ ap (λ (n : ℕ). has_any (gives x) || has_any (flat_map gives (drop n xs))) next

  abbrev Left : ℕ → Type 0
  Left i = has_any (flat_map gives (drop i xs)) ≡ has_any (flat_map gives xs)

  pub given : (i : ℕ) (x : A) → i < length xs → x ≡ get_or xs i x → Left i
      → true ≡ has_any (gives x)
      → true ≡ has_any (flat_map gives xs)
  given i x within is left here =
      ap (λ (b : Bool). b || has_any (flat_map gives (drop (i + 1) xs))) here
      ∙ sym (step i x within is) ∙ left

  pub passed : (i : ℕ) (x : A) → i < length xs → x ≡ get_or xs i x → Left i
      → false ≡ has_any (gives x) → Left (i + 1)
  passed i x within is left not_here =
      ap (λ (b : Bool). b || has_any (flat_map gives (drop (i + 1) xs))) not_here
      ∙ sym (step i x within is) ∙ left
