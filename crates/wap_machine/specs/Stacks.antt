-- Machines as the definitions see them. This project's own.
use Rattle.std.specs.Prelude.{◌≡◌, List, [], ◌∷◌, length, Some}
use Rattle.wap_base.specs.declared.limits.Limits.{Limits}
use Rattle.wap_value.specs.declared.value.Value.{Value}
use Rattle.wap_unit.specs.declared.unit.Code.{Code}
use Rattle.wap_execution.specs.Frames.{Function, Frame, code_at, begun, pushed}

-- the frames of a machine, the innermost first
pub record Stack : Type 0 where
  pub limits : Limits
  pub frames : List Frame

-- a machine by its limits and frames
abbrev pub stack : Limits → List Frame → Stack
stack limits frames = record { limits = limits; frames = frames }

-- the innermost frame goes on with a value
abbrev pub answered : Value → List Frame → List Frame
answered v [] = []
answered v (frame ∷ outer) = pushed v frame ∷ outer

-- the function, which takes as many arguments, at its beginning inside of these frames
pub record IsEntered
    (limits : Limits) (function : Function) (arguments : List Value) (outer : List Frame)
    (machine : Stack) : Type 0 where
  pub code : Code
  pub found : code_at function ≡ Some code
  pub many : length arguments ≡ code.args
  pub is : machine ≡ stack limits (begun function code arguments ∷ outer)
