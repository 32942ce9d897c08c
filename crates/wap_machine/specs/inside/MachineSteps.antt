-- What steps of a machine come to. This carries proofs alone.
use Rattle.std.specs.Prelude.{⊤, ◌≡◌, ◌≢◌, ℕ, ◌-◌, ◌<◌, ◌≤◌, List, [], ◌∷◌, length, Some}
use Rattle.wap_base.specs.declared.limits.Limits.{Limits}
use Rattle.wap_value.specs.declared.value.Value.{Value}
use Rattle.wap_url.specs.declared.url.Url.{Url}
use Rattle.wap_unit.specs.declared.unit.Unit.{Unit}
use Rattle.wap_unit.specs.declared.unit.Code.{Code}
use Rattle.wap_execution.specs.declared.fatal.Fatal.TheVariants.{Depth, Budget}
use Rattle.wap_execution.specs.declared.found.Found.{Found}
use Rattle.wap_execution.specs.declared.found.Found.TheVariants.{Callee, Not}
use Rattle.wap_execution.specs.declared.library.HostOut.{HostOut}
use Rattle.wap_execution.specs.declared.library.HostOut.TheVariants as out
use Rattle.wap_execution.specs.Frames.{Function, Frame, code_at, begun}
use Rattle.wap_execution.specs.Effects.{Called}
use Rattle.wap_execution.specs.Outcomes.{Ended, Hosting, Setting, stuck}
use Rattle.wap_execution.specs.Running.{ended, returned, called, enter, resumed, finished}
use Rattle.wap_base.specs.declared.limits.TheConstants.{MOST_DEPTH}
use Rattle.wap_machine.specs.declared.machine.Outcome.TheVariants.{Done, Exited, Fatal, Asks}
use Rattle.wap_machine.specs.declared.machine.Step.{Step}
use Rattle.wap_machine.specs.declared.machine.Step.TheVariants.{Goes, Ends}
use Rattle.wap_machine.specs.Stacks.{Stack, stack, answered}
use Rattle.wap_machine.specs.Seen.{function_in}
use Rattle.wap_machine.specs.Standing.{CanCall}
use Rattle.wap_machine.specs.inside.Efforts.{IsLight}
use Rattle.wap_execution.specs.laws.Settings.{uncounted}
use Rattle.wap_machine.specs.Runs.{meant, KeepsLimits, WantsNoTurn}

-- ---- what goes on

-- what a step leaves to do
abbrev pub rest : {S : Type 0} → Setting S → Step → ℕ → S → Ended S
rest setting (Goes machine) turns state = finished setting machine.frames turns state
rest setting (Ends outcome) turns state = ended (meant outcome) turns state

-- what frames make of a call from the innermost of them
abbrev pub calls_from : {S : Type 0}
    → Setting S → List Frame → Called → List Value → ℕ → S → Ended S
calls_from setting [] callee arguments turns state = ended stuck turns state
calls_from setting (frame ∷ outer) callee arguments turns state =
    returned (frame ∷ outer) (resumed setting (frame ∷ outer))
    (called setting (length (frame ∷ outer))
    (enter setting (MOST_DEPTH - length (frame ∷ outer)))
    frame.function callee arguments turns state)

-- the same of what waits
abbrev pub called_from : {S : Type 0} → Stack → Hosting S → Called → List Value → ℕ → S → Ended S
called_from waiting host = calls_from (uncounted waiting.limits host) waiting.frames

-- the innermost frame may make the call
abbrev pub CanCallFrom : List Frame → Called → List Value → Type 0
CanCallFrom [] callee arguments = ⊥
CanCallFrom (frame ∷ outer) callee arguments = CanCall frame.function callee arguments

-- ---- steps

-- a call of a library gave this
abbrev pub goes_with : Limits → List Frame → HostOut → Step
goes_with limits frames (out.Value v) = Goes (stack limits (answered v frames))
goes_with limits frames (out.Exit v) = Ends (Exited v)
goes_with limits frames (out.Fatal why) = Ends (Fatal why)
goes_with limits frames (out.Asks dialog) = Ends (Asks dialog (stack limits frames))

-- a step goes into a function
pub record GoesInto
    (limits : Limits) (function : Function) (arguments : List Value) (outer : List Frame)
    (step : Step) : Type 0 where
  pub code : Code
  pub found : code_at function ≡ Some code
  pub many : length arguments ≡ code.args
  pub is : step ≡ Goes (stack limits (begun function code arguments ∷ outer))

-- a call of a function of the unit: it is entered, unless so many are at work
pub record GoesLocally
    (limits : Limits) (frames : List Frame) (index : ℕ) (arguments : List Value)
    (step : Step) : Type 0 where
  pub depth_fits : limits.depth ≤ MOST_DEPTH
  pub deep : limits.depth ≤ length frames → step ≡ Ends (Fatal Depth)
  pub enters : (frame : Frame) (outer : List Frame) → frames ≡ frame ∷ outer
      → length frames < limits.depth
      → GoesInto limits (record frame.function { index = index }) arguments frames step

-- a function of another unit was looked for
abbrev pub GoesFound : Limits → List Frame → Url → Found Unit → List Value → Step → Type 0
GoesFound limits frames caller (Callee unit base index) arguments step =
    GoesInto limits (function_in unit base (Some caller) index) arguments frames step
GoesFound limits frames caller (Not why) arguments step = step ≡ Ends (Fatal why)

-- ---- what every step keeps

abbrev pub LimitsStay : Limits → Step → Type 0
LimitsStay limits (Goes machine) = machine.limits ≡ limits
LimitsStay limits (Ends outcome) = KeepsLimits limits outcome

abbrev pub IsWithoutBudget : Step → Type 0
IsWithoutBudget (Goes machine) = ⊤
IsWithoutBudget (Ends (Done v)) = ⊤
IsWithoutBudget (Ends (Exited v)) = ⊤
IsWithoutBudget (Ends (Fatal why)) = why ≢ Budget
IsWithoutBudget (Ends (Asks dialog waiting)) = ⊤

-- the limits stay, the step doesn't end because turns ran out, and where it goes on it is as light
-- as all machines
pub record IsInOrderFor (limits : Limits) (step : Step) : Type 0 where
  pub limits_stay : LimitsStay limits step
  pub turns_are : IsWithoutBudget step
  pub light : IsLight step

-- no step ends because turns ran out where turns are left
abbrev pub Wants : ℕ → Step → Type 0
Wants turns (Goes machine) = ⊤
Wants turns (Ends outcome) = WantsNoTurn turns outcome
