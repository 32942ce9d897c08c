-- What is wanted after an instruction. This carries proofs alone.
use Rattle.std.specs.Prelude.{◌≡◌, ◌<◌, List, [], ◌∷◌, length}
use Rattle.wap_base.specs.declared.limits.Limits.{Limits}
use Rattle.wap_value.specs.declared.value.Value.{Value}
use Rattle.wap_value.specs.declared.value.Value.TheVariants.{Str}
use Rattle.wap_execution.specs.Frames.{Frame, code_of}
use Rattle.wap_machine.specs.declared.next.Next.{Next}
use Rattle.wap_machine.specs.declared.next.Next.TheVariants as next
use Rattle.wap_machine.specs.declared.machine.Outcome.TheVariants.{Done, Fatal}
use Rattle.wap_machine.specs.declared.machine.Step.{Step}
use Rattle.wap_machine.specs.declared.machine.Step.TheVariants.{Goes, Ends}
use Rattle.wap_machine.specs.declared.machine.Wanted.{Wanted}
use Rattle.wap_machine.specs.declared.machine.Wanted.TheVariants.{Nothing, Turn, Call}
use Rattle.wap_machine.specs.Stacks.{stack, answered}
use Rattle.wap_machine.specs.Doing.{Acts}
use Rattle.wap_machine.specs.inside.Stacked.{AreStacked}
use Rattle.wap_machine.specs.inside.Goings.{Passed}

-- frames go on with a value, if there are any
abbrev pub gives : Limits → List Frame → Value → Step
gives limits [] v = Ends (Done v)
gives limits (frame ∷ outer) v = Goes (stack limits (answered v (frame ∷ outer)))

-- after what was done to the innermost frame
abbrev pub wanted_for : Limits → Frame → List Frame → Next → Wanted
wanted_for limits frame outer next.Onward = Nothing (Goes (stack limits (frame ∷ outer)))
wanted_for limits frame outer next.Back = Turn (stack limits (frame ∷ outer))
wanted_for limits frame outer (next.Call callee arguments) =
    Call (stack limits (frame ∷ outer)) callee arguments
wanted_for limits frame outer (next.Return v) = Nothing (gives limits outer v)
wanted_for limits frame outer (next.End why) = Nothing (Ends (Fatal why))

-- the innermost function has come to its end, or an instruction was done
pub data HasStepped (limits : Limits) (frames : List Frame) (wanted : Wanted) : Type 0 where
  at_end : (frame : Frame) (outer : List Frame) → frames ≡ frame ∷ outer
      → frame.place ≡ length (code_of frame.function)
      → wanted ≡ Nothing (gives limits outer (Str [])) → HasStepped limits frames wanted
  done : (frame new : Frame) (outer : List Frame) (step : Next) → frames ≡ frame ∷ outer
      → AreStacked limits frame 0 outer
      → frame.place < length (code_of frame.function) → Acts limits.string frame new step
      → wanted ≡ wanted_for limits new outer step → HasStepped limits frames wanted

-- instructions were done that go on further on, and then the last
pub record IsAdvanced (limits : Limits) (frames : List Frame) (wanted : Wanted) : Type 0 where
  pub frame : Frame
  pub outer : List Frame
  pub are : frames ≡ frame ∷ outer
  pub now : Frame
  pub passed : Passed limits.string frame now
  pub last : HasStepped limits (now ∷ outer) wanted
