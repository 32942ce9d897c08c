-- Runs in two hosts side by side, from states that are kin, until both are lost: until a fact is so
-- of each that no call takes back. This project's own.
use Rattle.std.specs.Prelude.{◌≡◌, ◌⊎◌, ℕ, List, Option}
use Rattle.wap_base.specs.declared.limits.Limits.{Limits}
use Rattle.wap_value.specs.declared.value.Value.{Value}
use Rattle.wap_url.specs.declared.url.Url.{Url}
use Rattle.wap_execution.specs.Frames.{Function, Frame}
use Rattle.wap_execution.specs.Outcomes.{Ended, Hosting}
use Rattle.wap_execution.specs.Running.{resumed, finished, enter}
use Rattle.wap_execution.specs.laws.Settings.{uncounted}

-- a fact of states that no call takes back
pub record Stays {S : Type 0} (host : Hosting S) (Lost : S → Type 0) : Type 0 where
  pub external : (s : S) (caller : Url) (url name : List ℕ) (count working : ℕ) → Lost s
      → Lost (host.external s caller url name count working).1
  pub library : (s : S) (base : Url) (referer : Option Url) (number index : ℕ)
      (arguments : List Value) → Lost s
      → Lost (host.library s base referer number index arguments).1

-- both answer the same, and stay in kin states; or both are lost
abbrev pub Both : {A S T : Type 0} → (S → T → Type 0) → (S → Type 0) → (T → Type 0)
    → A × S → A × T → Type 0
Both Kin Lost Lost' one other =
    ((one.0 ≡ other.0) × Kin one.1 other.1) ⊎ (Lost one.1 × Lost' other.1)

-- from kin states two hosts answer the same and stay in kin states, unless both are lost
pub record AreAlike {S T : Type 0} (Kin : S → T → Type 0) (Lost : S → Type 0) (Lost' : T → Type 0)
    (host : Hosting S) (host' : Hosting T) : Type 0 where
  pub external : (s : S) (t : T) (caller : Url) (url name : List ℕ) (count working : ℕ) → Kin s t
      → Both Kin Lost Lost' (host.external s caller url name count working)
      (host'.external t caller url name count working)
  pub library : (s : S) (t : T) (base : Url) (referer : Option Url) (number index : ℕ)
      (arguments : List Value) → Kin s t
      → Both Kin Lost Lost' (host.library s base referer number index arguments)
      (host'.library t base referer number index arguments)
  pub stays : Stays host Lost
  pub stays' : Stays host' Lost'

-- two runs came to the same outcome with as many turns left, in kin states
pub record IsKin {S T : Type 0} (Kin : S → T → Type 0) (one : Ended S) (other : Ended T) : Type 0
  where
    pub outcome : one.outcome ≡ other.outcome
    pub turns : one.turns ≡ other.turns
    pub state : Kin one.state other.state

-- two runs come to the same in kin states, unless both are lost
abbrev pub ComeToSame : {S T : Type 0} → (S → T → Type 0) → (S → Type 0) → (T → Type 0)
    → Ended S → Ended T → Type 0
ComeToSame Kin Lost Lost' one other = IsKin Kin one other ⊎ (Lost one.state × Lost' other.state)

-- runs of two hosts from kin states come to the same in kin states, unless both are lost
pub record RunAlike {S T : Type 0} (Kin : S → T → Type 0) (Lost : S → Type 0) (Lost' : T → Type 0)
    (limits : Limits) (host : Hosting S) (host' : Hosting T) : Type 0 where
  pub entering : (more : ℕ) (function : Function) (arguments : List Value) (turns : ℕ) (s : S)
      (t : T) → Kin s t
      → ComeToSame Kin Lost Lost' (enter (uncounted limits host) more function arguments turns s)
      (enter (uncounted limits host') more function arguments turns t)
  pub resuming : (frames : List Frame) (v : Value) (turns : ℕ) (s : S) (t : T) → Kin s t
      → ComeToSame Kin Lost Lost' (resumed (uncounted limits host) frames v turns s)
      (resumed (uncounted limits host') frames v turns t)
  pub finishing : (frames : List Frame) (turns : ℕ) (s : S) (t : T) → Kin s t
      → ComeToSame Kin Lost Lost' (finished (uncounted limits host) frames turns s)
      (finished (uncounted limits host') frames turns t)
