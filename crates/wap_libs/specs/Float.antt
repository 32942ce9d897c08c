-- The library Float (WAP-194, "Float"): there are no Floats, so each function gives invalid.
use Rattle.wap_value.specs.declared.value.Value.TheVariants.{Invalid}
use Rattle.wap_libs.specs.declared.function.FloatFunction.{FloatFunction}
use Rattle.wap_libs.specs.declared.function.FloatFunction.TheVariants.{Int, Floor, Ceil, Pow, Round}
use Rattle.wap_libs.specs.declared.function.FloatFunction.TheVariants.{Sqrt, MaxFloat, MinFloat}
use Rattle.wap_libs.specs.Row.{Formula, of_none, of_one, of_two}

-- each function at its name
abbrev pub formula_of_float : FloatFunction → Formula
formula_of_float Int = of_one (λ v. Invalid)
formula_of_float Floor = of_one (λ v. Invalid)
formula_of_float Ceil = of_one (λ v. Invalid)
formula_of_float Pow = of_two (λ v w. Invalid)
formula_of_float Round = of_one (λ v. Invalid)
formula_of_float Sqrt = of_one (λ v. Invalid)
formula_of_float MaxFloat = of_none Invalid
formula_of_float MinFloat = of_none Invalid
