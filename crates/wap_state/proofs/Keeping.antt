-- What is done to the history and the timer keeps the rules of worlds.
use Rattle.std.proofs.Common.{◌≡◌, ◌⊎◌, inl, inr, ℕ, zero, suc, ◌≤◌, ◌<◌, ◌-◌, Bool, true, false}
use Rattle.std.proofs.Common.{cond}
use Rattle.std.proofs.Common.{List, [], ◌∷◌, ◌++◌, length, drop, Option, Some, None, Result, Ok}
use Rattle.std.proofs.Common.{Err}
use Rattle.std.proofs.Common.{refl, sym, ◌∙◌, subst, arith, length-append, length-take}
use Rattle.std.specs.Prelude.{nat_lt, OnOk, OnErr}
use Rattle.std.specs.List.{last_or}
use Rattle.std.specs.Option.{option_to_list}
use Rattle.std.proofs.lemmas.List.{length-drop}
use Rattle.std.proofs.lemmas.Bool.Decides.{nat_tests}
use Rattle.wap_base.specs.declared.limits.Limits.{Limits}
use Rattle.wap_base.specs.Limits.{AreInRange}
use Rattle.wap_world.specs.declared.history.Entry.{Entry}
use Rattle.wap_world.specs.declared.timer.Timer.{Timer}
use Rattle.wap_world.specs.declared.timer.Timer.TheVariants.{NotStarted, Running, Off, Expired}
use Rattle.wap_world.specs.History.{all_but_last}
use Rattle.wap_world.specs.Timers.{timer_from, settled_timer}
use Rattle.wap_world.proofs.Laws.{few_popped}
use Rattle.wap_state.specs.Standing.{KeepsRules}

-- a call did what it is for, or nothing
pub did : {A E P Q : Type 0} (result : Result A E) → OnOk result P → OnErr result Q → P ⊎ Q
did (Ok x) done same = inl done
did (Err fault) done same = inr same

few_pushed : (b : Bool) (limit : ℕ) (history : List Entry) (e : Entry)
    → nat_lt (length history) limit ≡ b → 1 ≤ limit → length history ≤ limit
    → length (cond b history (drop 1 history) ++ e ∷ []) ≤ limit
few_pushed true limit history e t some few = grind (t, some, few, arith, nat_tests, length-append)
few_pushed false limit history e t some few =
    grind (t, some, few, arith, nat_tests, length-append, length-drop)

few_last : (limit : ℕ) (history : List Entry) (e : Entry) → 1 ≤ limit → length history ≤ limit
    → length (all_but_last history ++ e ∷ []) ≤ limit
few_last limit history e some few = grind (some, few, arith, length-append, length-take)

-- timers that run alike have the same time left
pub time_same : (m n : ℕ) → ◌≡◌ {A = Timer} (Running m) (Running n) → m ≡ n
time_same m n e = cc e

few_alone : (o : Option Entry) → length (option_to_list o) ≤ 1
few_alone None = omega arith
few_alone (Some entry) = omega arith

module _ (limits : Limits) (history : List Entry) (timer : Timer)
    (rules : KeepsRules limits history timer) where
  some : 1 ≤ limits.history
  some = omega (arith, rules.range.history)

  pub keeps_pushed : (after : List Entry) (entry : Entry)
      → after ≡ cond (nat_lt (length history) limits.history) history (drop 1 history) ++ entry ∷ []
      → KeepsRules limits after timer
  keeps_pushed after entry is = record {
    range = rules.range;
    few =
        subst (λ (h : List Entry). length h ≤ limits.history) (sym is)
        (few_pushed _ limits.history history entry refl some rules.few);
    runs = rules.runs;
  }

  pub keeps_back : (after : List Entry) (entry : Entry)
      → after ≡ all_but_last (all_but_last history) ++ entry ∷ [] → KeepsRules limits after timer
  keeps_back after entry is = record {
    range = rules.range;
    few =
        subst (λ (h : List Entry). length h ≤ limits.history) (sym is)
        (few_popped limits.history history entry some rules.few);
    runs = rules.runs;
  }

  pub keeps_last : (after : List Entry) (entry : Entry)
      → after ≡ all_but_last history ++ entry ∷ [] → KeepsRules limits after timer
  keeps_last after entry is = record {
    range = rules.range;
    few =
        subst (λ (h : List Entry). length h ≤ limits.history) (sym is)
        (few_last limits.history history entry some rules.few);
    runs = rules.runs;
  }

  pub keeps_same : (after : List Entry) → after ≡ history → KeepsRules limits after timer
  keeps_same after is =
      subst (λ (h : List Entry). KeepsRules limits h timer) (sym is) rules

  pub keeps_alone : (after : List Entry) → after ≡ option_to_list (last_or None history)
      → KeepsRules limits after timer
  keeps_alone after is = record {
    range = rules.range;
    few =
        subst (λ (h : List Entry). length h ≤ limits.history) (sym is)
        (omega (arith, few_alone (last_or None history), some));
    runs = rules.runs;
  }

  pub keeps_none : (after : List Entry) → after ≡ [] → KeepsRules limits after NotStarted
  keeps_none after is = record {
    range = rules.range;
    few =
        subst (λ (h : List Entry). length h ≤ limits.history) (sym is) (omega arith);
    runs = λ tenths e. absurd (cc e);
  }

  pub keeps_off : KeepsRules limits history Off
  keeps_off = record { range = rules.range; few = rules.few; runs = λ tenths e. absurd (cc e) }

  pub keeps_expired : KeepsRules limits history Expired
  keeps_expired = record { range = rules.range; few = rules.few; runs = λ tenths e. absurd (cc e) }

  pub keeps_reset : KeepsRules limits history NotStarted
  keeps_reset = record { range = rules.range; few = rules.few; runs = λ tenths e. absurd (cc e) }

  pub keeps_running : (tenths : ℕ) → 0 < tenths → KeepsRules limits history (Running tenths)
  keeps_running tenths left = record {
    range = rules.range;
    few = rules.few;
    runs = λ n e. subst (λ (m : ℕ). 0 < m) (time_same tenths n e) left;
  }

  from_runs : (start : Option (Option (List ℕ) × ℕ)) (tenths : ℕ)
      → timer_from start ≡ Running tenths → 0 < tenths
  from_runs None tenths e = absurd (cc e)
  from_runs (Some (name, zero)) tenths e = absurd (cc e)
  from_runs (Some (name, suc time)) tenths e =
      subst (λ (m : ℕ). 0 < m) (time_same (suc time) tenths e) (omega arith)

  pub keeps_from : (start : Option (Option (List ℕ) × ℕ)) (after : Timer)
      → after ≡ timer_from start → KeepsRules limits history after
  keeps_from start after is = record {
    range = rules.range;
    few = rules.few;
    runs = λ tenths e. from_runs start tenths (sym is ∙ e);
  }

  settled_runs : (t : Timer) (tenths : ℕ) → settled_timer t ≡ Running tenths → t ≡ Running tenths
  settled_runs (Running time) tenths e = e
  settled_runs _ tenths e = absurd (cc e)

  pub keeps_settled : (after : Timer) → after ≡ settled_timer timer
      → KeepsRules limits history after
  keeps_settled after is = record {
    range = rules.range;
    few = rules.few;
    runs = λ tenths e. rules.runs tenths (settled_runs timer tenths (sym is ∙ e));
  }

  -- less time than is left passes
  pub keeps_counted : (time left : ℕ) → time < left
      → KeepsRules limits history (Running (left - time))
  keeps_counted time left less = keeps_running (left - time) (omega arith)

-- the rules of the first world
pub keeps_first : (limits : Limits) → AreInRange limits → KeepsRules limits [] NotStarted
keeps_first limits range =
    record { range = range; few = omega arith; runs = λ tenths e. absurd (cc e) }

pub range_of : (limits : Limits) (history : List Entry) (timer : Timer)
    → KeepsRules limits history timer → AreInRange limits
range_of limits history timer rules = rules.range
