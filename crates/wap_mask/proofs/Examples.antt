-- The definitions at the masks and texts of the worked examples, by calculation.
use Rattle.std.proofs.Common.{◌≡◌, [], ◌∷◌, true, false, refl}
use Rattle.std.specs.Prelude.{codes}
use Rattle.wap_mask.specs.Calculation.{mask_of, is_taken}
use Rattle.wap_mask.specs.Grammar.{any_text}

digits_take_a_number : is_taken (mask_of (codes "N*N")) (codes "250") ≡ true
digits_take_a_number = refl

digits_want_one : is_taken (mask_of (codes "N*N")) [] ≡ false
digits_want_one = refl

digits_take_no_letter : is_taken (mask_of (codes "N*N")) (codes "2a") ≡ false
digits_take_no_letter = refl

two_may_be_none : is_taken (mask_of (codes "2N")) [] ≡ true
two_may_be_none = refl

two_may_be_two : is_taken (mask_of (codes "2N")) (codes "12") ≡ true
two_may_be_two = refl

two_are_not_three : is_taken (mask_of (codes "2N")) (codes "123") ≡ false
two_are_not_three = refl

-- \#A
escaped_then_upper : is_taken (mask_of (92 ∷ 35 ∷ 65 ∷ [])) (codes "#B") ≡ true
escaped_then_upper = refl

-- a backslash at the end, a star and a count without a letter
ill_formed : (mask_of (92 ∷ []) ≡ any_text) × (mask_of (codes "*") ≡ any_text)
    × (mask_of (codes "9") ≡ any_text)
ill_formed = (refl, refl, refl)

empty_takes_nothing : (is_taken (mask_of []) [] ≡ true)
    × (is_taken (mask_of []) (codes "a") ≡ false)
empty_takes_nothing = (refl, refl)
