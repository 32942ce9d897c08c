-- Dialogs that are answered in the state of a host, as by keys that are left there, and the same
-- answers from outside. This project's own.
use Rattle.std.specs.Prelude.{◌≡◌, ℕ, zero, suc, List}
use Rattle.wap_base.specs.declared.limits.Limits.{Limits}
use Rattle.wap_value.specs.declared.value.Value.{Value as GivenValue}
use Rattle.wap_execution.specs.declared.dialog.Dialog.{Dialog}
use Rattle.wap_execution.specs.declared.library.HostOut.{HostOut}
use Rattle.wap_execution.specs.declared.library.HostOut.TheVariants.{Value, Exit, Fatal, Asks}
use Rattle.wap_execution.specs.Frames.{Frame}
use Rattle.wap_execution.specs.Outcomes.{Outcome, exit, fatal, waits, Ended, Hosting, Setting}
use Rattle.wap_execution.specs.Running.{ended, resumed, finished}
use Rattle.wap_execution.specs.laws.Settings.{uncounted}

-- what a state answers to a dialog, and the state after it: `Asks` where there is no answer
abbrev pub Answering : Type 0 → Type 0
Answering S = S → Dialog → HostOut × S

-- ---- in the state

-- a dialog that a call asks is answered in the state
abbrev pub answered_in : {S : Type 0} → Answering S → HostOut → S → HostOut × S
answered_in answering (Value v) state = (Value v, state)
answered_in answering (Exit v) state = (Exit v, state)
answered_in answering (Fatal why) state = (Fatal why, state)
answered_in answering (Asks dialog) state = answering state dialog

-- the host whose dialogs are answered in its state
abbrev pub keyed : {S : Type 0} → Answering S → Hosting S → Hosting S
keyed answering host = record {
  external = host.external;
  library = λ state base referer number index arguments.
      let gave = host.library state base referer number index arguments in
      answered_in answering gave.0 gave.1;
}

-- ---- from outside

-- frames that wait go on with an answer, and from there as `next` says
abbrev pub gone_on : {S : Type 0}
    → Setting S → (Ended S → Ended S) → List Frame → HostOut → ℕ → S → Ended S
gone_on setting next frames (Value v) turns state = next (resumed setting frames v turns state)
gone_on setting next frames (Exit v) turns state = ended (exit v) turns state
gone_on setting next frames (Fatal why) turns state = ended (fatal why) turns state
gone_on setting next frames (Asks dialog) turns state = ended (waits dialog frames) turns state

-- a run that waits goes on with what its state answers, and from there as `next` says
abbrev pub answered_once : {S : Type 0}
    → Setting S → Answering S → (Ended S → Ended S) → Outcome → ℕ → S → Ended S
answered_once setting answering next (waits dialog frames) turns state =
    let gave = answering state dialog in
    gone_on setting next frames gave.0 turns gave.1
answered_once setting answering next outcome turns state = ended outcome turns state

-- one dialog after the other is answered, and at most so many
abbrev pub answered_each : {S : Type 0} → Setting S → Answering S → ℕ → Ended S → Ended S
answered_each setting answering zero end = end
answered_each setting answering (suc more) end =
    answered_once setting answering (answered_each setting answering more)
    end.outcome end.turns end.state

-- ---- both are the same

-- a dialog takes a turn, so no more dialogs are met than there are turns
pub record AgreesKeyed {S : Type 0} (limits : Limits) (host : Hosting S) (answering : Answering S)
    : Type 0 where
  pub finishing : (frames : List Frame) (turns : ℕ) (state : S)
      → finished (uncounted limits (keyed answering host)) frames turns state
      ≡ answered_each (uncounted limits host) answering turns
      (finished (uncounted limits host) frames turns state)
  pub resuming : (frames : List Frame) (v : GivenValue) (turns : ℕ) (state : S)
      → resumed (uncounted limits (keyed answering host)) frames v turns state
      ≡ answered_each (uncounted limits host) answering turns
      (resumed (uncounted limits host) frames v turns state)

-- ---- one dialog from outside, and the further ones in the state

-- a run that waits goes on with what its state answers, and from there in another setting
abbrev pub unrolled_by : {S : Type 0} → Setting S → Answering S → Outcome → ℕ → S → Ended S
unrolled_by further answering (waits dialog frames) turns state =
    let gave = answering state dialog in gone_on further (λ end. end) frames gave.0 turns gave.1
unrolled_by further answering outcome turns state = ended outcome turns state

-- the same of the end of a run
abbrev pub unrolled : {S : Type 0} → Setting S → Answering S → Ended S → Ended S
unrolled further answering end = unrolled_by further answering end.outcome end.turns end.state

-- where the state answers dialogs, a run comes to what it comes to where its first dialog is
-- answered from outside and the further ones in the state
pub record GoesOnKeyed {S : Type 0} (limits : Limits) (host : Hosting S) (answering : Answering S)
    : Type 0 where
  pub finishing : (frames : List Frame) (turns : ℕ) (state : S)
      → finished (uncounted limits (keyed answering host)) frames turns state
      ≡ unrolled (uncounted limits (keyed answering host)) answering
      (finished (uncounted limits host) frames turns state)
  pub resuming : (frames : List Frame) (v : GivenValue) (turns : ℕ) (state : S)
      → resumed (uncounted limits (keyed answering host)) frames v turns state
      ≡ unrolled (uncounted limits (keyed answering host)) answering
      (resumed (uncounted limits host) frames v turns state)
