-- The operators on two Integers, over whole numbers (WAP-193, "Arithmetic Operators"). A result
-- that is no Integer is none.
use Rattle.std.specs.Prelude.{ℕ, ◌^◌, ◌/◌, ℤ, pos, negsuc, ◌+ℤ◌, ◌-ℤ◌, ◌*ℤ◌, int_div, int_rem}
use Rattle.std.specs.Prelude.{nat_lt, Option, Some, None, option_and_then, if◌then◌else◌}
use Rattle.std.specs.Int.{w32, cast_unsigned, cast_signed, int_wrap, int_shr}
use Rattle.std.specs.Int.{int_bit_and, int_bit_or, int_bit_xor}
use Rattle.std.specs.Ordering.{int_eq}
use Rattle.wap_value.specs.declared.operator.BinOp.{BinOp}
use Rattle.wap_value.specs.declared.operator.BinOp.TheVariants.{Mul, Div, IDiv, Rem, Add, Sub, Shl}
use Rattle.wap_value.specs.declared.operator.BinOp.TheVariants.{Shr, UShr, BitAnd, BitXor, BitOr}
use Rattle.wap_value.specs.Integer.{in_range}

-- the quotient, cut toward zero; by 0 there is none
abbrev pub quotient : ℤ → ℤ → Option ℤ
quotient x y = if int_eq y (pos 0) then None else Some (int_div x y)

-- the remainder, which has the sign of the dividend; by 0 there is none
abbrev pub remainder : ℤ → ℤ → Option ℤ
remainder x y = if int_eq y (pos 0) then None else Some (int_rem x y)

-- what a shift gives by a count of 0 to 31; by another there is no result, which is this project's
-- own rule
abbrev pub shifted : (ℕ → ℤ) → ℤ → Option ℤ
shifted shift (pos count) = if nat_lt count 32 then Some (shift count) else None
shifted shift (negsuc n) = None

-- the lowest 32 bits of x * 2 ^ count, as a signed number
abbrev pub shl : ℤ → ℕ → ℤ
shl x count = int_wrap w32 (x *ℤ pos (2 ^ count))

-- x / 2 ^ count, rounded down
abbrev pub shr : ℤ → ℕ → ℤ
shr x count = int_shr x count

-- the 32 bits of x as an unsigned number, over 2 ^ count, as a signed number of 32 bits again
abbrev pub ushr : ℤ → ℕ → ℤ
ushr x count = cast_signed w32 (cast_unsigned w32 x / 2 ^ count)

-- each operator's row; the quotient of `/` would be a Float, which no value is
abbrev pub whole_number_of : BinOp → ℤ → ℤ → Option ℤ
whole_number_of Mul x y = Some (x *ℤ y)
whole_number_of Div x y = None
whole_number_of IDiv x y = quotient x y
whole_number_of Rem x y = remainder x y
whole_number_of Add x y = Some (x +ℤ y)
whole_number_of Sub x y = Some (x -ℤ y)
whole_number_of Shl x y = shifted (shl x) y
whole_number_of Shr x y = shifted (shr x) y
whole_number_of UShr x y = shifted (ushr x) y
whole_number_of BitAnd x y = Some (int_bit_and w32 x y)
whole_number_of BitXor x y = Some (int_bit_xor w32 x y)
whole_number_of BitOr x y = Some (int_bit_or w32 x y)
whole_number_of _ x y = None

-- the Integer that an operator gives, where its result is one
abbrev pub integer_result_of : BinOp → ℤ → ℤ → Option ℤ
integer_result_of op x y = option_and_then in_range (whole_number_of op x y)
