-- The operators of one operand (WAP-193, "Operators and Expressions"), with invalid where there is
-- no conversion or a result is no Integer. `typeof` and `isvalid` take any value.
use Rattle.std.specs.Prelude.{Bool, true, false, not, ℤ, pos, neg_ℤ, ◌+ℤ◌, ◌-ℤ◌, option_and_then}
use Rattle.std.specs.Option.{option_map}
use Rattle.wap_value.specs.declared.value.Value.{Value}
use Rattle.wap_value.specs.declared.value.Value.TheVariants.{Int, Bool as Boolean, Str, Invalid}
use Rattle.wap_value.specs.declared.operator.UnOp.{UnOp}
use Rattle.wap_value.specs.declared.operator.UnOp.TheVariants.{Plus, Minus, BitNot, Not, TypeOf}
use Rattle.wap_value.specs.declared.operator.UnOp.TheVariants.{IsValid, ToBool, Incr, Decr}
use Rattle.wap_value.specs.Integer.{in_range}
use Rattle.wap_value.specs.Conversion.{integer_of, boolean_of, integer_value, boolean_value}

-- the number of a value's type (WAP-193, "typeof Operator"); 1, the Float, has no value here
abbrev pub type_number : Value → ℤ
type_number (Int z) = pos 0
type_number (Str text) = pos 2
type_number (Boolean b) = pos 3
type_number Invalid = pos 4

-- the value is not invalid (WAP-193, "isvalid Operator")
abbrev pub is_valid : Value → Bool
is_valid Invalid = false
is_valid _ = true

-- what f makes of the operand as an Integer
abbrev pub on_integer : (ℤ → ℤ) → Value → Value
on_integer f v = integer_value (option_and_then (λ z. in_range (f z)) (integer_of v))

-- what an operator makes of its operand
abbrev pub unary_of : UnOp → Value → Value
unary_of Plus v = on_integer (λ z. z) v
unary_of Minus v = on_integer (λ z. neg_ℤ z) v
unary_of BitNot v = on_integer (λ z. neg_ℤ z -ℤ pos 1) v
unary_of Not v = boolean_value (option_map not (boolean_of v))
unary_of TypeOf v = Int (type_number v)
unary_of IsValid v = Boolean (is_valid v)
unary_of ToBool v = boolean_value (boolean_of v)
unary_of Incr v = on_integer (λ z. z +ℤ pos 1) v
unary_of Decr v = on_integer (λ z. z -ℤ pos 1) v
