-- Where all scripts are units, a function comes to what machines make of it, but for the frames
-- that wait.
use Rattle.std.proofs.Common.{◌≡◌, ℕ, ◌-◌, Bool, true, false, eqb, cond, List, length}
use Rattle.std.proofs.Common.{Option, Some, None, refl}
use Rattle.wap_base.specs.declared.limits.Limits.{Limits}
use Rattle.wap_base.specs.declared.limits.TheConstants.{MOST_DEPTH}
use Rattle.wap_value.specs.declared.value.Value.{Value}
use Rattle.wap_unit.specs.declared.unit.Code.{Code}
use Rattle.wap_execution.specs.Frames.{Function, code_at, begun}
use Rattle.wap_execution.specs.Outcomes.{Outcome, waits, stuck, Hosting}
use Rattle.wap_execution.specs.Running.{ended, Calls, called, goes, began, enter}
use Rattle.wap_execution.specs.laws.Settings.{uncounted}
use Rattle.wap_execution.specs.laws.Forgetting.{forgotten_by, forgotten}
use Rattle.wap_execution.proofs.LawsLemmas.ForgetLaws as forget_laws
use Rattle.wap_meaning.specs.Functions.{plain_ways, code_runs, unit_runs, calls_among_units}
use Rattle.wap_meaning.specs.Functions.{RunsAsMachines}

-- what is forgotten once is forgotten twice
forgotten_twice : {S : Type 0} (outcome : Outcome) (turns : ℕ) (state : S)
    → forgotten_by outcome turns state ≡ forgotten (forgotten_by outcome turns state)
forgotten_twice (waits dialog frames) turns state = refl
forgotten_twice _ turns state = refl

module _ {S : Type 0} (limits : Limits) (host : Hosting S) (more : ℕ) (function : Function) where
  -- what its calls come to, with the frames that wait
  abbrev calls : Calls S
  calls = called (uncounted limits host) (MOST_DEPTH - more) (enter
      (uncounted limits host) more) function

  -- a function that is there, and none
  code_same : (code : Option Code) (arguments : List Value) (turns : ℕ) (state : S)
      → forgotten (began (uncounted limits host) (MOST_DEPTH - more)
      (enter (uncounted limits host) more) function code arguments turns state)
      ≡ forgotten (code_runs limits.string (calls_among_units limits host more function) function
      code arguments turns state)
  code_same None arguments turns state = refl
  code_same (Some code) arguments turns state =
      elim (eqb (length arguments) code.args) as (λ (b : Bool).
      forgotten (cond b
      (goes (plain_ways limits.string calls) (begun function code arguments) turns state)
      (ended stuck turns state))
      ≡ forgotten (cond b
      (goes (plain_ways limits.string (calls_among_units limits host more function))
      (begun function code arguments) turns state) (ended stuck turns state))) [
        | true ↦
            (forget_laws.agrees S).forgets (plain_ways limits.string calls)
            (calls_among_units limits host more function)
            (λ callee args left later.
            let end = calls callee args left later in
            forgotten_twice end.outcome end.turns end.state)
            (begun function code arguments) turns state
        | false ↦ refl
      ]

-- in every host of units
pub agrees : {S : Type 0} (limits : Limits) (host : Hosting S) → RunsAsMachines limits host
unfolding enter unit_runs
agrees limits host = record {
  entering = λ more function arguments turns state.
      code_same limits host more function (code_at function) arguments turns state;
}
