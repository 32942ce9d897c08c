-- Runs of a machine, step by step.
use Rattle.std.specs.Prelude.{◌<◌}
use Rattle.std.proofs.Common.{◌≡◌, ℕ, ◌≤◌, Option, Some, None, refl, sym, ap, subst, ◌∙◌, arith}
use Rattle.wap_base.specs.declared.limits.Limits.{Limits}
use Rattle.wap_execution.specs.Outcomes.{Ended, Hosting}
use Rattle.wap_execution.specs.Running.{ended, finished}
use Rattle.wap_machine.specs.declared.machine.Outcome.{Outcome}
use Rattle.wap_machine.specs.declared.machine.Step.TheVariants.{Goes, Ends}
use Rattle.wap_machine.specs.Hosts.{Grows, Fetches}
use Rattle.wap_machine.specs.Stacks.{Stack}
use Rattle.wap_execution.specs.laws.Settings.{uncounted}
use Rattle.wap_machine.specs.Runs.{run_of, meant, IsEnd}
use Rattle.wap_machine.specs.inside.MachineSteps.{rest}
use Rattle.wap_machine.proofs.CallLaws.{grows_same, grows_chained}

rose_less : (least more count : ℕ) → least ≤ more → more < count → least < count
rose_less least more count less rose = grind arith

fetches_earlier : (before middle after : Option ℕ) (count : ℕ) → Grows before middle
    → Fetches middle count after → Fetches before count after
fetches_earlier None middle after count grows fetches = tt
fetches_earlier (Some n) None after count grows fetches = absurd grows
fetches_earlier (Some n) (Some m) after count grows fetches =
    (rose_less n m count grows fetches.0, fetches.1)

-- from a machine with so many turns and this state to another
pub record Runs {S : Type 0} (meaning : Hosting S) (fetched : S → Option ℕ) (machine now : Stack)
    (turns left : ℕ) (old state : S) : Type 0 where
  pub told : run_of machine meaning turns old
      ≡ finished (uncounted machine.limits meaning) now.frames left state
  pub grown : Grows (fetched old) (fetched state)

module _ {S : Type 0} (meaning : Hosting S) (fetched : S → Option ℕ) (machine : Stack) (turns : ℕ)
    (old : S) where
  pub begins : Runs meaning fetched machine machine turns turns old old
  begins = record { told = refl; grown = grows_same (fetched old) }

  module _ (now : Stack) (left : ℕ) (state : S)
      (runs : Runs meaning fetched machine now turns left old state)
      (limits : now.limits ≡ machine.limits) where
    abbrev before : Ended S
    before = run_of machine meaning turns old

    -- a step goes on to another machine
    pub goes_on : (next : Stack) (fewer : ℕ) (later : S)
        → run_of now meaning left state
        ≡ rest (uncounted now.limits meaning) (Goes next) fewer later
        → Grows (fetched state) (fetched later)
        → Runs meaning fetched machine next turns fewer old later
    goes_on next fewer later told grown = record {
      told = runs.told ∙ subst (λ (l : Limits). finished (uncounted l meaning) now.frames left state
          ≡ finished (uncounted l meaning) next.frames fewer later) limits told;
      grown = grows_chained (fetched old) (fetched state) (fetched later) runs.grown grown;
    }

    -- a run that came to its end is what the definition says
    pub ends_told : (outcome : Outcome) (fewer : ℕ) (later : S)
        → run_of now meaning left state
        ≡ rest (uncounted now.limits meaning) (Ends outcome) fewer later
        → IsEnd before outcome fewer later
    ends_told outcome fewer later told =
        let same : before ≡ ended (meant outcome) fewer later =
        runs.told ∙ subst (λ (l : Limits). finished (uncounted l meaning) now.frames left state
        ≡ ended (meant outcome) fewer later) limits told in
        record {
          outcome_is = sym (ap (λ (e : Ended S). e.outcome) same);
          turns_are = sym (ap (λ (e : Ended S). e.turns) same);
          state_is = sym (ap (λ (e : Ended S). e.state) same);
        }

    -- a failure on the way fetched no more than the whole run
    pub fails_fetched : (count : ℕ)
        → Fetches (fetched state) count (fetched (run_of now meaning left state).state)
        → Fetches (fetched old) count (fetched before.state)
    fails_fetched count fetches =
        fetches_earlier (fetched old) (fetched state) (fetched before.state) count runs.grown
        (subst (λ (e : Ended S). Fetches (fetched state) count (fetched e.state)) (sym runs.told)
        (subst (λ (l : Limits). Fetches (fetched state) count (fetched
        (finished (uncounted l meaning) now.frames left state).state)) limits fetches))
