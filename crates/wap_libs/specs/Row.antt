-- What a function does with its arguments: a row of the tables of libraries. This project's own.
use Rattle.std.specs.Prelude.{ℕ, List, slice_index_or}
use Rattle.wap_value.specs.declared.value.Value.{Value}
use Rattle.wap_value.specs.declared.value.Value.TheVariants.{Invalid}
use Rattle.wap_libs.specs.declared.outcome.LibOut.{LibOut}
use Rattle.wap_libs.specs.declared.outcome.LibOut.TheVariants.{Value as Gives}
use Rattle.wap_libs.specs.Generator.{Generator}

-- how a value is made of so many others
pub data Formula : Type 0 where
  of_none : Value → Formula
  of_one : (Value → Value) → Formula
  of_two : (Value → Value → Value) → Formula
  of_three : (Value → Value → Value → Value) → Formula
  of_four : (Value → Value → Value → Value → Value) → Formula

-- how many values a formula takes
abbrev pub values_taken : Formula → ℕ
values_taken (of_none v) = 0
values_taken (of_one f) = 1
values_taken (of_two f) = 2
values_taken (of_three f) = 3
values_taken (of_four f) = 4

-- one of the arguments, counted from 0
abbrev pub argument : List Value → ℕ → Value
argument args k = slice_index_or args k Invalid

-- the value that a formula makes of the first of these arguments
abbrev pub value_given : Formula → List Value → Value
value_given (of_none v) args = v
value_given (of_one f) args = f (argument args 0)
value_given (of_two f) args = f (argument args 0) (argument args 1)
value_given (of_three f) args = f (argument args 0) (argument args 1) (argument args 2)
value_given (of_four f) args =
    f (argument args 0) (argument args 1) (argument args 2) (argument args 3)

-- what a function does
pub data Row : Type 0 where
  -- gives a value, and needs no more than its arguments
  gives : Formula → Row
  -- ends the script
  ends : (Value → LibOut) → Row
  -- asks the generator, and may change it
  draws : (Value → Generator → Value × Generator) → Row

-- how many arguments the function takes
abbrev pub arguments : Row → ℕ
arguments (gives formula) = values_taken formula
arguments (ends f) = 1
arguments (draws f) = 1

-- what the call comes to, and the generator after it
abbrev pub applied : Row → List Value → Generator → LibOut × Generator
applied (gives formula) args g = (Gives (value_given formula args), g)
applied (ends f) args g = (f (argument args 0), g)
applied (draws f) args g = let drawn = f (argument args 0) g in (Gives drawn.0, drawn.1)
