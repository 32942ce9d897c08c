-- What runs come to, one instruction at a time: what stands where a frame goes on decides. This
-- project's own.
use Rattle.std.specs.Prelude.{◌≡◌, ℕ, ◌-◌, ◌<◌, List, [], ◌∷◌, length}
use Rattle.wap_base.specs.declared.limits.TheConstants.{MOST_DEPTH}
use Rattle.wap_base.specs.declared.limits.Limits.{Limits}
use Rattle.wap_value.specs.declared.value.Value.TheVariants.{Str}
use Rattle.wap_execution.specs.Frames.{Frame, code_of}
use Rattle.wap_execution.specs.Effects.{Effect, onward, back, calls, returns, ends}
use Rattle.wap_execution.specs.Effects.{stuck as nowhere, effect_at}
use Rattle.wap_execution.specs.Outcomes.{fatal, stuck, Ended, Hosting, Setting}
use Rattle.wap_execution.specs.Running.{ended, taking_turn, returned, called, at_place, enter}
use Rattle.wap_execution.specs.Running.{resumed, finished}
use Rattle.wap_execution.specs.laws.Settings.{uncounted}

-- what a frame and those outside it come to by an effect: it goes on where that leads, takes a turn
-- to go back or to call, goes on with what the call gives, or gives its value to the next frame
abbrev pub settled : {S : Type 0} → Setting S → Frame → List Frame → Effect → ℕ → S → Ended S
settled setting frame outer (onward place variables operands) turns state =
    finished setting (at_place frame.function place variables operands ∷ outer) turns state
settled setting frame outer (back place variables operands) turns state =
    taking_turn turns state (λ left.
    finished setting (at_place frame.function place variables operands ∷ outer) left state)
settled setting frame outer (calls callee arguments place variables operands) turns state =
    let frames = at_place frame.function place variables operands ∷ outer in
    taking_turn turns state (λ left.
    returned frames (resumed setting frames)
    (called setting (length frames) (enter setting (MOST_DEPTH - length frames))
    frame.function callee arguments left state))
settled setting frame outer (returns v) turns state = resumed setting outer v turns state
settled setting frame outer (ends why) turns state = ended (fatal why) turns state
settled setting frame outer nowhere turns state = ended stuck turns state

-- a frame inside its code comes to what the instruction there leads to; at the end of its code it
-- gives the empty String, and behind it it is stuck
pub record GoesByInstructions {S : Type 0} (limits : Limits) (host : Hosting S) : Type 0 where
  pub inside : (frame : Frame) (outer : List Frame) (turns : ℕ) (state : S)
      → frame.place < length (code_of frame.function)
      → finished (uncounted limits host) (frame ∷ outer) turns state
      ≡ settled (uncounted limits host) frame outer (effect_at limits.string frame) turns state
  pub at_end : (frame : Frame) (outer : List Frame) (turns : ℕ) (state : S)
      → frame.place ≡ length (code_of frame.function)
      → finished (uncounted limits host) (frame ∷ outer) turns state
      ≡ resumed (uncounted limits host) outer (Str []) turns state
  pub behind : (frame : Frame) (outer : List Frame) (turns : ℕ) (state : S)
      → length (code_of frame.function) < frame.place
      → finished (uncounted limits host) (frame ∷ outer) turns state ≡ ended stuck turns state
