-- Where a frame of a unit that may be run stands (by the paths of `wap_verify`), and that an effect
-- leads on only to where such a frame stands. This project's own.
use Rattle.std.specs.Prelude.{⊤, ◌≡◌, ℕ, ◌+◌, ◌<◌, ◌≤◌, List, length, Some}
use Rattle.wap_value.specs.declared.value.Value.{Value}
use Rattle.wap_unit.specs.declared.unit.Code.{Code}
use Rattle.wap_unit.specs.Libraries.{lib_args}
use Rattle.wap_unit.specs.Spelling.{HasSpelling}
use Rattle.wap_verify.specs.Paths.{Reaches}
use Rattle.wap_verify.specs.Sound.{IsVerified}
use Rattle.wap_execution.specs.Frames.{Function, Frame, code_at, begun}
use Rattle.wap_execution.specs.Effects.{Called, local, library, external, Effect}
use Rattle.wap_execution.specs.Effects.{onward, back, calls, returns, ends, stuck}
use Rattle.wap_execution.specs.Running.{at_place}

-- there is such a function, and it takes so many arguments
pub record CanEnter (function : Function) (arguments : List Value) : Type 0 where
  pub code : Code
  pub found : code_at function ≡ Some code
  pub as_many : length arguments ≡ code.args

-- its place is reached with its operands and as many values that are still to come
pub record Stands (frame : Frame) (coming : ℕ) : Type 0 where
  pub spelled : HasSpelling frame.function.unit
  pub verified : IsVerified frame.function.unit
  pub code : Code
  pub found : code_at frame.function ≡ Some code
  pub variables : length frame.variables ≡ code.args + code.locals
  pub within : frame.place ≤ length code.code
  pub reached : Reaches frame.function.unit frame.function.index code frame.place
      (length frame.operands + coming)

-- a function at its beginning
pub record IsBegun (function : Function) (arguments : List Value) (frame : Frame) : Type 0 where
  pub code : Code
  pub found : code_at function ≡ Some code
  pub is : frame ≡ begun function code arguments
  pub stands : Stands frame 0

-- ---- effects

-- a function of the unit can be entered, and one of a library takes so many arguments
abbrev pub CanCall : Function → Called → List Value → Type 0
CanCall function (local index) arguments = CanEnter (record function { index = index }) arguments
CanCall function (library number index) arguments = lib_args number index ≡ Some (length arguments)
CanCall function (external url name) arguments = ⊤

-- from a place it goes on further on, and there stands with as many values to come
pub record Onwards (place : ℕ) (new : Frame) (coming : ℕ) : Type 0 where
  pub further : place < new.place
  pub stands : Stands new coming

-- an effect leads on only to where a frame stands that can make the call, and nothing is missing
abbrev pub Fits : Frame → Effect → Type 0
Fits frame (onward place variables operands) =
    Onwards frame.place (at_place frame.function place variables operands) 0
Fits frame (back place variables operands) =
    Stands (at_place frame.function place variables operands) 0
Fits frame (calls callee arguments place variables operands) =
    Onwards frame.place (at_place frame.function place variables operands) 1
    × CanCall frame.function callee arguments
Fits frame (returns value) = ⊤
Fits frame (ends why) = ⊤
Fits frame stuck = ⊥

-- ---- room for operands

-- so many values are at most there wherever the function is reached
pub record HasRoom (function : Function) (room : ℕ) : Type 0 where
  pub covers : (code : Code) (at values : ℕ) → code_at function ≡ Some code
      → Reaches function.unit function.index code at values → values ≤ room

-- some place of the function is reached with so many values
pub record IsReached (function : Function) (values : ℕ) : Type 0 where
  pub code : Code
  pub found : code_at function ≡ Some code
  pub at : ℕ
  pub reached : Reaches function.unit function.index code at values
