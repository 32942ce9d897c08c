-- How long the parts of a unit may be so that their lengths can be written.
use Rattle.std.specs.Prelude.{⊤, ℕ, ◌<◌, ◌^◌, List, length, encode_utf8_all}
use Rattle.std.specs.List.{AllByRecursion}
use Rattle.wap_unit.specs.declared.unit.Unit.{Unit}
use Rattle.wap_unit.specs.declared.unit.Constant.{Constant}
use Rattle.wap_unit.specs.declared.unit.Constant.TheVariants.{Utf8}
use Rattle.wap_unit.specs.declared.unit.Constant.TheVariants.{Coded}
use Rattle.wap_unit.specs.declared.unit.Code.{Code}
use Rattle.wap_unit.specs.Spelling.{body_spelling}

abbrev pub FitsConstant : Constant → Type 0
FitsConstant (Utf8 text) = length (encode_utf8_all text) < 2 ^ 32
FitsConstant (Coded text) = length text < 2 ^ 32
FitsConstant _ = ⊤

abbrev pub FitsName : ℕ × List ℕ → Type 0
FitsName name = length (encode_utf8_all name.1) < 2 ^ 8

abbrev pub FitsFunction : Code → Type 0
FitsFunction function = length function.code < 2 ^ 32

pub record FitsFunctions (names : List (ℕ × List ℕ)) (functions : List Code) : Type 0 where
  pub few_names : length names < 2 ^ 8
  pub few : length functions < 2 ^ 8
  pub each_name : AllByRecursion FitsName names
  pub each : AllByRecursion FitsFunction functions

pub record FitsConstants (constants : List Constant) : Type 0 where
  pub few : length constants < 2 ^ 32
  pub each : AllByRecursion FitsConstant constants

pub record FitsUnit (unit : Unit) : Type 0 where
  pub constants : FitsConstants unit.constants
  pub pragmas : length unit.pragmas < 2 ^ 32
  pub functions : FitsFunctions unit.names unit.functions
  pub body : length (body_spelling unit) < 2 ^ 32
