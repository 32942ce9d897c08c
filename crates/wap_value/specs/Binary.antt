-- The operators of two operands (WAP-193, "Operators and Expressions"): `+` and comparisons are on
-- Strings where one operand is a String, and else on Integers, as all the others are. `&&`, `||`
-- and `,` are not asked, since they do not take the values of both operands.
use Rattle.std.specs.Prelude.{Bool, false, not, ◌||◌, ◌++◌, ℤ, Option, Some, None, ⊤, if◌then◌else◌}
use Rattle.std.specs.Option.{option_map}
use Rattle.std.specs.declared.cmp.Ordering.{Ordering}
use Rattle.std.specs.Ordering.{is_lt, is_le, is_gt, is_eq, is_ne}
use Rattle.wap_value.specs.declared.value.Value.{Value}
use Rattle.wap_value.specs.declared.value.Value.TheVariants.{Invalid}
use Rattle.wap_value.specs.declared.operator.BinOp.{BinOp}
use Rattle.wap_value.specs.declared.operator.BinOp.TheVariants.{Add, Lt, Le, Gt, Ge, Eq, Ne}
use Rattle.wap_value.specs.declared.operator.BinOp.TheVariants.{And, Or, Comma}
use Rattle.wap_value.specs.Conversion.{integer_of, text_of, integer_value}
use Rattle.wap_value.specs.Conversion.{boolean_value, text_value}
use Rattle.wap_value.specs.Arithmetic.{integer_result_of}
use Rattle.wap_value.specs.Order.{is_string, of_both, order_of}

-- the operators that take the values of both operands
abbrev pub TakesBoth : BinOp → Type 0
TakesBoth And = ⊥
TakesBoth Or = ⊥
TakesBoth Comma = ⊥
TakesBoth _ = ⊤

-- what an operator makes of the operands as Integers
abbrev pub on_integers : BinOp → Option ℤ → Option ℤ → Value
on_integers op (Some x) (Some y) = integer_value (integer_result_of op x y)
on_integers op (Some x) None = Invalid
on_integers op None y = Invalid

-- what `+` makes of two values
abbrev pub sum_of : Value → Value → Value
sum_of a b =
    if is_string a || is_string b then text_value (of_both (λ s t. s ++ t) (text_of a) (text_of b))
    else on_integers Add (integer_of a) (integer_of b)

-- the orders at which a comparison holds; the other operators are no comparisons
abbrev pub test_of : BinOp → Ordering → Bool
test_of Lt order = is_lt order
test_of Le order = is_le order
test_of Gt order = is_gt order
test_of Ge order = not (is_lt order)
test_of Eq order = is_eq order
test_of Ne order = is_ne order
test_of _ order = false

-- what a comparison makes of two values
abbrev pub comparison_of : BinOp → Value → Value → Value
comparison_of op a b = boolean_value (option_map (test_of op) (order_of a b))

-- what an operator makes of the values of both operands
abbrev pub binary_of : BinOp → Value → Value → Value
binary_of Add a b = sum_of a b
binary_of Lt a b = comparison_of Lt a b
binary_of Le a b = comparison_of Le a b
binary_of Gt a b = comparison_of Gt a b
binary_of Ge a b = comparison_of Ge a b
binary_of Eq a b = comparison_of Eq a b
binary_of Ne a b = comparison_of Ne a b
binary_of op a b = on_integers op (integer_of a) (integer_of b)
