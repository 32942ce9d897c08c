-- Lengths and their limits.
use Rattle.std.proofs.Common.{◌≡◌, ℕ, ◌-◌, ◌^◌, ◌≤◌, min, Bool, true, false, List}
use Rattle.std.proofs.Common.{[], ◌∷◌, Option, Some, None, refl, arith}
use Rattle.std.specs.Prelude.{nat_le, IsTrue, ◌↔◌}
use Rattle.std.specs.Option.{option_map, option_map_or}
use Rattle.std.proofs.lemmas.Bool.Decides.{nat_tests}
use Rattle.wap_cardrules.specs.Values.{is_empty}

-- a number that is cut off limits lengths as it does whole
pub within_limit : (count : ℕ) (found : Option ℕ) → count ≤ 2 ^ 64 - 1
    → option_map_or (nat_le count) (option_map (min (2 ^ 64 - 1)) found) true
    ≡ option_map_or (nat_le count) found true
within_limit count None few = refl
within_limit count (Some most) few = cut count most few
  where
    cut : (count most : ℕ) → count ≤ 2 ^ 64 - 1
        → nat_le count (min (2 ^ 64 - 1) most) ≡ nat_le count most
    cut count most few = grind (arith, nat_tests)

pub empty_test : (empty : Bool) (text : List ℕ) → IsTrue empty ↔ (text ≡ []) → empty ≡ is_empty text
empty_test empty [] when = when.1 refl
empty_test true (c ∷ text) when = absurd (cc (when.0 refl))
empty_test false (c ∷ text) when = none
  where
    none : false ≡ is_empty (c ∷ text)
    none = grind (arith, nat_tests)
