-- How two values are ordered (WAP-193, "Comparison Operators"): as Strings, by the numbers of the
-- characters, where one of them is a String, and else as Integers. `None`: there is no conversion.
use Rattle.std.specs.Prelude.{Bool, true, false, ◌||◌, Option, Some, None, if◌then◌else◌}
use Rattle.std.specs.Ordering.{int_cmp}
use Rattle.std.specs.declared.cmp.Ordering.{Ordering}
use Rattle.wap_base.specs.Texts.{text_cmp}
use Rattle.wap_value.specs.declared.value.Value.{Value}
use Rattle.wap_value.specs.declared.value.Value.TheVariants.{Str}
use Rattle.wap_value.specs.Conversion.{integer_of, text_of}

-- the value is a String
abbrev pub is_string : Value → Bool
is_string (Str text) = true
is_string _ = false

-- what f makes of two things, if both are there
abbrev pub of_both : {A B : Type 0} → (A → A → B) → Option A → Option A → Option B
of_both f (Some x) (Some y) = Some (f x y)
of_both f (Some x) None = None
of_both f None y = None

-- the order of two values
abbrev pub order_of : Value → Value → Option Ordering
order_of a b = if is_string a || is_string b then of_both text_cmp (text_of a) (text_of b)
    else of_both int_cmp (integer_of a) (integer_of b)
