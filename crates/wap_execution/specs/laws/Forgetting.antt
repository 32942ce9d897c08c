-- What runs come to without the frames that wait. This project's own.
use Rattle.std.specs.Prelude.{◌≡◌, ℕ, List, []}
use Rattle.wap_value.specs.declared.value.Value.{Value}
use Rattle.wap_execution.specs.Frames.{Frame}
use Rattle.wap_execution.specs.Effects.{Called}
use Rattle.wap_execution.specs.Outcomes.{Outcome, waits, Ended}
use Rattle.wap_execution.specs.Running.{ended, Calls, Ways, goes}

-- an outcome without the frames that wait
abbrev pub forgotten_by : {S : Type 0} → Outcome → ℕ → S → Ended S
forgotten_by (waits dialog frames) turns state = ended (waits dialog []) turns state
forgotten_by outcome turns state = ended outcome turns state

-- an end without the frames that wait
abbrev pub forgotten : {S : Type 0} → Ended S → Ended S
forgotten end = forgotten_by end.outcome end.turns end.state

-- what a frame comes to without the frames that wait hangs on what its calls come to without them,
-- and not on which frames wait
pub record ForgetsFrames (S : Type 0) : Type 0 where
  pub forgets : (ways : Ways S) (other : Calls S)
      → ((callee : Called) (arguments : List Value) (turns : ℕ) (state : S)
      → forgotten (ways.call callee arguments turns state)
      ≡ forgotten (other callee arguments turns state))
      → (frame : Frame) (turns : ℕ) (state : S)
      → forgotten (goes ways frame turns state)
      ≡ forgotten (goes (record ways { call = other }) frame turns state)
