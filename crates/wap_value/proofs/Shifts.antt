-- A shift to the left keeps the lowest 32 bits of the product.
use Rattle.std.proofs.Common.{◌≡◌, ℕ, ◌^◌, ◌<◌, ℤ, pos, negsuc, ◌*ℤ◌, refl}
use Rattle.std.proofs.Common.{sym, ap, ◌∙◌, subst, inl, inr, arith}
use Rattle.std.specs.Int.{w32, int_wrap, int_shl}
use Rattle.std.specs.Prelude.{FitsSigned}
use Rattle.std.proofs.lemmas.Bool.{cases_lt}
use Rattle.std.proofs.lemmas.Int.{wrapping_mul_is, int_wrap-mul_right}
use Rattle.std.proofs.lemmas.Nat.{pow_below}

least : int_wrap w32 (pos (2 ^ 31)) ≡ negsuc 2147483647
unfolding int_wrap
least = refl

pub wrapped_product_is_shift : (x : ℤ) (count : ℕ) → FitsSigned w32 x → count < 32
    → int_wrap w32 (x *ℤ pos (2 ^ count)) ≡ int_shl w32 x count
wrapped_product_is_shift x count fits below = elim (cases_lt count 31) [
  | inl low ↦
      sym (wrapping_mul_is w32 x (pos (2 ^ count)) fits (record { sfits = pow_below count 31 low }))
  | inr high ↦
      let last : 31 ≡ count = omega arith in
      subst (λ (n : ℕ). int_wrap w32 (x *ℤ pos (2 ^ n)) ≡ int_shl w32 x n) last
      (sym (int_wrap-mul_right w32 x (pos (2 ^ 31)))
      ∙ ap (λ (y : ℤ). int_wrap w32 (x *ℤ y)) least
      ∙ sym (wrapping_mul_is w32 x (negsuc 2147483647) fits (record { sfits = omega arith })))
]
