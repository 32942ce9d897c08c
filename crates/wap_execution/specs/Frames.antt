-- The frames of functions at work (WAP-193, section 9).
use Rattle.std.specs.Prelude.{ℕ, List, [], ◌∷◌, ◌++◌, replicate, Option, Some}
use Rattle.std.specs.Prelude.{slice_get, option_map, option_and_then}
use Rattle.std.specs.Option.{option_map_or}
use Rattle.wap_value.specs.declared.value.Value.{Value}
use Rattle.wap_value.specs.declared.value.Value.TheVariants.{Int, Str, Invalid}
use Rattle.wap_url.specs.declared.url.Url.{Url}
use Rattle.wap_unit.specs.declared.unit.Unit.{Unit}
use Rattle.wap_unit.specs.declared.unit.Code.{Code}
use Rattle.wap_unit.specs.declared.unit.Constant.{Constant}
use Rattle.wap_unit.specs.declared.unit.Constant.TheVariants.{Int8, Int16, Int32, Float}
use Rattle.wap_unit.specs.Strings.{string_of}

-- a function of a script, with the script's URL and that of the script that called it, if one did;
-- scripts are units, and in meanings of sources programs
pub record FunctionOf (U : Type 0) : Type 0 where
  pub unit : U
  pub base : Url
  pub referer : Option Url
  pub index : ℕ

-- a function of a unit
abbrev pub Function : Type 0
Function = FunctionOf Unit

-- a function at work: the place in its code where it goes on, its variables, and its operands, the
-- topmost first
pub record Frame : Type 0 where
  pub function : Function
  pub place : ℕ
  pub variables : List Value
  pub operands : List Value

-- the function as it stands in its unit, if it is one of the unit's
abbrev pub code_at : Function → Option Code
code_at function = slice_get function.unit.functions function.index

-- the bytes of a function's code, and none where the unit has no such function
abbrev pub code_of : Function → List ℕ
code_of function = option_map_or (λ found. found.code) (code_at function) []

-- arguments are the first variables, and the others are empty Strings at first
abbrev pub first_variables : Code → List Value → List Value
first_variables code arguments = arguments ++ replicate code.locals (Str [])

-- a function at its beginning
abbrev pub begun : Function → Code → List Value → Frame
begun function code arguments = record {
  function = function;
  place = 0;
  variables = first_variables code arguments;
  operands = [];
}

-- a frame whose call gave a value
abbrev pub pushed : Value → Frame → Frame
pushed value frame = record frame { operands = value ∷ frame.operands }

-- the value of a constant; floats have none
abbrev pub constant_of : ℕ → Constant → Option Value
constant_of charset (Int8 number) = Some (Int number)
constant_of charset (Int16 number) = Some (Int number)
constant_of charset (Int32 number) = Some (Int number)
constant_of charset (Float bits) = Some Invalid
constant_of charset string = option_map Str (string_of charset string)

-- the value of a unit's constant, if there is one with this index
abbrev pub constant_at : Unit → ℕ → Option Value
constant_at unit index = option_and_then (constant_of unit.charset) (slice_get unit.constants index)
