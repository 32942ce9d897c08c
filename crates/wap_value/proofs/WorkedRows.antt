-- The definitions at worked rows and at the borders of 32 bits: each holds by computation.
use Rattle.std.proofs.Common.{◌≡◌, ℕ, neg_ℤ, [], ◌∷◌, true, false, ℤ, pos, refl, Ok, Err}
use Rattle.std.specs.Prelude.{codes}
use Rattle.std.specs.Fmt.{digits}
use Rattle.std.specs.Int.{int_wrap}
use Rattle.wap_value.specs.declared.value.Value.TheVariants.{Int, Bool as Boolean, Str, Invalid}
use Rattle.wap_value.specs.declared.operator.UnOp.TheVariants.{Plus, Minus, BitNot, TypeOf}
use Rattle.wap_value.specs.declared.operator.BinOp.TheVariants.{Div, IDiv, Rem, Add, Sub, Shl, Shr}
use Rattle.wap_value.specs.declared.operator.BinOp.TheVariants.{UShr, Lt, BitAnd, BitXor, BitOr}
use Rattle.wap_value.specs.declared.fault.ValueFault.TheVariants.{TooLong}
use Rattle.wap_value.specs.Unary.{unary_of}
use Rattle.wap_value.specs.Binary.{binary_of}
use Rattle.wap_value.specs.TooLong.{kept_within}

abbrev minus : ℕ → ℤ
minus n = neg_ℤ (pos n)

-- `"1" + 2`, `"5" - 2`, `true + true`
joined : binary_of Add (Str (codes "1")) (Int (pos 2)) ≡ Str (codes "12")
unfolding digits
joined = refl

differs : binary_of Sub (Str (codes "5")) (Int (pos 2)) ≡ Int (pos 3)
differs = refl

truths : binary_of Add (Boolean true) (Boolean true) ≡ Int (pos 2)
truths = refl

-- `2147483647 + 1`, `7 / 2`, `7 div 0`, `1 << 32`
past : binary_of Add (Int (pos 2147483647)) (Int (pos 1)) ≡ Invalid
past = refl

halves : binary_of Div (Int (pos 7)) (Int (pos 2)) ≡ Invalid
halves = refl

by_zero : binary_of IDiv (Int (pos 7)) (Int (pos 0)) ≡ Invalid
by_zero = refl

all_out : binary_of Shl (Int (pos 1)) (Int (pos 32)) ≡ Invalid
all_out = refl

-- `-7 div 2`, `-7 % 2`, `-2147483648 div -1`, `-2147483648 % -1`, `-(-2147483648)`
toward_zero : binary_of IDiv (Int (minus 7)) (Int (pos 2)) ≡ Int (minus 3)
toward_zero = refl

sign_of_dividend : binary_of Rem (Int (minus 7)) (Int (pos 2)) ≡ Int (minus 1)
sign_of_dividend = refl

least_over : binary_of IDiv (Int (minus 2147483648)) (Int (minus 1)) ≡ Invalid
least_over = refl

least_rest : binary_of Rem (Int (minus 2147483648)) (Int (minus 1)) ≡ Int (pos 0)
least_rest = refl

least_turned : unary_of Minus (Int (minus 2147483648)) ≡ Invalid
least_turned = refl

-- `"2" < 10`, `-1 >>> 28`, `-1 >>> 0`, `-1 >> 28`, `1 << 31`, `3 << 31`
as_texts : binary_of Lt (Str (codes "2")) (Int (pos 10)) ≡ Boolean false
unfolding digits
as_texts = refl

high_bits : binary_of UShr (Int (minus 1)) (Int (pos 28)) ≡ Int (pos 15)
high_bits = refl

no_shift : binary_of UShr (Int (minus 1)) (Int (pos 0)) ≡ Int (minus 1)
no_shift = refl

copies_sign : binary_of Shr (Int (minus 256)) (Int (pos 4)) ≡ Int (minus 16)
copies_sign = refl

to_sign : binary_of Shl (Int (pos 1)) (Int (pos 31)) ≡ Int (minus 2147483648)
unfolding int_wrap
to_sign = refl

keeps_low : binary_of Shl (Int (pos 3)) (Int (pos 31)) ≡ Int (minus 2147483648)
unfolding int_wrap
keeps_low = refl

back : binary_of Shr (Int (pos 1)) (Int (minus 1)) ≡ Invalid
back = refl

-- `~5`, `12 & 10`, `-1 ^ 5`, `-8 | 3`
flipped : unary_of BitNot (Int (pos 5)) ≡ Int (minus 6)
flipped = refl

common : binary_of BitAnd (Int (pos 12)) (Int (pos 10)) ≡ Int (pos 8)
common = refl

apart : binary_of BitXor (Int (minus 1)) (Int (pos 5)) ≡ Int (minus 6)
apart = refl

either : binary_of BitOr (Int (minus 8)) (Int (pos 3)) ≡ Int (minus 5)
either = refl

-- `typeof` of an Integer, a String, a Boolean and invalid
types : (unary_of TypeOf (Int (pos 1)) ≡ Int (pos 0))
    × (unary_of TypeOf (Str (codes "a")) ≡ Int (pos 2))
    × (unary_of TypeOf (Boolean true) ≡ Int (pos 3)) × (unary_of TypeOf Invalid ≡ Int (pos 4))
types = (refl, refl, refl, refl)

-- texts that are Integers, and texts that are none
read : (unary_of Plus (Str (codes "-2147483648")) ≡ Int (minus 2147483648))
    × (unary_of Plus (Str (codes "+7")) ≡ Int (pos 7))
    × (unary_of Plus (Str (codes "007")) ≡ Int (pos 7))
read = (refl, refl, refl)

not_read : (unary_of Plus (Str (codes "2147483648")) ≡ Invalid)
    × (unary_of Plus (Str (codes " 1")) ≡ Invalid) × (unary_of Plus (Str (codes "1.0")) ≡ Invalid)
    × (unary_of Plus (Str (codes "-")) ≡ Invalid) × (unary_of Plus (Str []) ≡ Invalid)
    × (unary_of Plus (Str (codes "--1")) ≡ Invalid)
    × (unary_of Plus (Str (codes "1234567890123456789012345678901234567890")) ≡ Invalid)
not_read = (refl, refl, refl, refl, refl, refl, refl)

-- 3 bytes of one character and one of another are 4
counted : kept_within 3 (Str (0x20AC ∷ 97 ∷ [])) ≡ Err (TooLong 4)
counted = refl

fits : kept_within 4 (Str (0x20AC ∷ 97 ∷ [])) ≡ Ok (Str (0x20AC ∷ 97 ∷ []))
fits = refl
