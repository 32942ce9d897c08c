-- The arguments of a function, converted (WAP-194, "Data Type Conversions"). Where one is invalid
-- or has no such conversion, the function gives invalid.
use Rattle.std.specs.Prelude.{ℕ, List, ℤ, pos, negsuc, Option, Some, None}
use Rattle.wap_value.specs.declared.value.Value.{Value}
use Rattle.wap_value.specs.declared.value.Value.TheVariants.{Invalid}
use Rattle.wap_value.specs.Integer.{in_range}
use Rattle.wap_value.specs.Conversion.{integer_of, text_of, integer_value}

-- what f makes of a thing, or invalid where there is none
abbrev pub on : {A : Type 0} → Option A → (A → Value) → Value
on None f = Invalid
on (Some x) f = f x

-- what f makes of an argument as an Integer
abbrev pub on_integer : Value → (ℤ → Value) → Value
on_integer v f = on (integer_of v) f

-- what f makes of an argument as a String
abbrev pub on_text : Value → (List ℕ → Value) → Value
on_text v f = on (text_of v) f

-- a count or a place as a value: invalid where it is no Integer, so past 2147483647
abbrev pub number : ℕ → Value
number n = integer_value (in_range (pos n))

-- an Integer as a count or a place: one below 0 is 0
abbrev pub from_zero : ℤ → ℕ
from_zero (pos n) = n
from_zero (negsuc n) = 0
