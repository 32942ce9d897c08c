-- Counting changes nothing of a run. This project's own.
use Rattle.std.specs.Prelude.{◌≡◌, ℕ, List}
use Rattle.wap_base.specs.declared.limits.Limits.{Limits}
use Rattle.wap_value.specs.declared.value.Value.{Value}
use Rattle.wap_execution.specs.Frames.{Frame}
use Rattle.wap_execution.specs.Outcomes.{Ended, Hosting}
use Rattle.wap_execution.specs.Running.{ended, resumed, finished}
use Rattle.wap_execution.specs.laws.Settings.{uncounted, Counted, counting}
use Rattle.wap_execution.specs.laws.Dialogs.{continued, alone, with_count}

-- an end without what was counted
abbrev pub without_count : {S : Type 0} → Ended (Counted S) → Ended S
without_count end = ended end.outcome end.turns end.state.state

-- a run comes to the same outcome, with the same turns left and in the same state, whether it is
-- counted or not, and so does all that goes on after its dialogs
pub record AgreesUncounted {S : Type 0} (limits : Limits) (host : Hosting S) : Type 0 where
  pub finishing : (frames : List Frame) (turns : ℕ) (counted : Counted S)
      (answers : List (Value × S))
      → without_count (continued (counting limits host) with_count answers
      (finished (counting limits host) frames turns counted))
      ≡ continued (uncounted limits host) alone answers
      (finished (uncounted limits host) frames turns counted.state)
  pub resuming : (frames : List Frame) (v : Value) (turns : ℕ) (counted : Counted S)
      (answers : List (Value × S))
      → without_count (continued (counting limits host) with_count answers
      (resumed (counting limits host) frames v turns counted))
      ≡ continued (uncounted limits host) alone answers
      (resumed (uncounted limits host) frames v turns counted.state)
