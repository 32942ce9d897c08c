-- A whole number is in range where 32 bits hold it.
use Rattle.std.proofs.Common.{◌≡◌, ℤ, pos, negsuc, Option, Some, None, sym, ap, ◌∙◌, arith}
use Rattle.std.specs.Int.{w32}
use Rattle.std.specs.Prelude.{FitsSigned, SomeIff, nat_lt, ◌^◌}
use Rattle.std.proofs.lemmas.Bool.{cond-false, false_from_ne_true, ltb-true}
use Rattle.std.proofs.lemmas.Bool.Decides.{nat_tests}
use Rattle.wap_value.specs.Integer.{in_range}

pub fits_in_range : (z : ℤ) → FitsSigned w32 z → in_range z ≡ Some z
fits_in_range (pos n) fits = grind (arith, nat_tests)
fits_in_range (negsuc n) fits = grind (arith, nat_tests)

pub unfit_out_of_range : (z : ℤ) → ¬ (FitsSigned w32 z) → in_range z ≡ None
unfit_out_of_range (pos n) unfit =
    cond-false (nat_lt n (2 ^ 31)) _ _
    (false_from_ne_true _ (λ t. unfit (record { sfits = ltb-true n (2 ^ 31) t })))
unfit_out_of_range (negsuc n) unfit =
    cond-false (nat_lt n (2 ^ 31)) _ _
    (false_from_ne_true _ (λ t. unfit (record { sfits = ltb-true n (2 ^ 31) t })))

-- what a checked operation gives
pub checked_is_in_range : (z : ℤ) (r : Option ℤ) → SomeIff r (FitsSigned w32 z) z → r ≡ in_range z
checked_is_in_range z (Some x) h = ap Some h.1 ∙ sym (fits_in_range z h.0)
checked_is_in_range z None h = sym (unfit_out_of_range z h)
