-- What machines' runs come to, by the definitions. This project's own.
use Rattle.std.specs.Prelude.{⊤, ◌≡◌, ℕ, ◌-◌, ◌≤◌, length}
use Rattle.wap_base.specs.declared.limits.Limits.{Limits}
use Rattle.wap_execution.specs.Outcomes.{Outcome as Meant, value, exit}
use Rattle.wap_execution.specs.Outcomes.{fatal, waits, Ended, Hosting}
use Rattle.wap_execution.specs.declared.fatal.Fatal.TheVariants.{Budget}
use Rattle.wap_execution.specs.Running.{finished}
use Rattle.wap_execution.specs.laws.Settings.{uncounted, Counted, counting}
use Rattle.wap_execution.specs.laws.Bounds.{started, most_instructions}
use Rattle.wap_machine.specs.Stacks.{Stack}
use Rattle.wap_machine.specs.declared.machine.Outcome.{Outcome}
use Rattle.wap_machine.specs.declared.machine.Outcome.TheVariants.{Done, Exited, Fatal, Asks}

-- a machine that waits is its frames
abbrev pub meant : Outcome → Meant
meant (Done v) = value v
meant (Exited v) = exit v
meant (Fatal why) = fatal why
meant (Asks dialog waiting) = waits dialog waiting.frames

-- this is what the definition says, with as many turns left, and in the state that it says
pub record IsEnd {S : Type 0}
    (end : Ended S) (outcome : Outcome) (turns : ℕ) (state : S) : Type 0 where
  pub outcome_is : meant outcome ≡ end.outcome
  pub turns_are : turns ≡ end.turns
  pub state_is : state ≡ end.state

-- what the frames of a machine come to in a host, with so many turns left
abbrev pub run_of : {S : Type 0} → Stack → Hosting S → ℕ → S → Ended S
run_of machine host = finished (uncounted machine.limits host) machine.frames

-- the same run, with its instructions counted
abbrev pub counted_run_of : {S : Type 0} → Stack → Hosting S → ℕ → S → Ended (Counted S)
counted_run_of machine host turns state =
    finished (counting machine.limits host) machine.frames turns (started state)

-- it does no more instructions than the turns that it took allow, where so many are left, by the
-- longest code among the functions that did one
abbrev pub IsBounded : {S : Type 0} → Stack → Hosting S → ℕ → ℕ → S → Type 0
IsBounded machine host turns left state =
    let end = counted_run_of machine host turns state in
    end.state.instructions
    ≤ most_instructions (length machine.frames) (turns - left) end.state.longest

-- a machine that waits has these limits
abbrev pub KeepsLimits : Limits → Outcome → Type 0
KeepsLimits limits (Asks dialog waiting) = waiting.limits ≡ limits
KeepsLimits limits _ = ⊤

-- it ends because turns ran out only where none is left
abbrev pub WantsNoTurn : ℕ → Outcome → Type 0
WantsNoTurn turns (Fatal why) = why ≡ Budget → turns ≡ 0
WantsNoTurn turns _ = ⊤
