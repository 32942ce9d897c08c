-- What scripts keep: no script makes keys or gives turns back, and what is so of keys and a world
-- inside scripts is so after them, as that the history is within its limit, and that a world stands
-- on a card.
use Rattle.std.proofs.Common.{◌≡◌, inl, inr, ℕ, ◌≤◌, List, Option, Some, None, refl, sym, ap, ◌∙◌}
use Rattle.std.proofs.Common.{arith, length}
use Rattle.std.specs.Prelude.{is_some}
use Rattle.std.specs.List.{last_or}
use Rattle.std.specs.Option.{option_and_then, option_to_list}
use Rattle.wap_base.specs.declared.limits.Limits.{Limits}
use Rattle.wap_execution.specs.declared.library.HostOut.{HostOut}
use Rattle.wap_execution.specs.declared.library.HostOut.TheVariants as out
use Rattle.wap_execution.specs.Frames.{Function, Frame, code_at}
use Rattle.wap_execution.specs.laws.Settings.{uncounted}
use Rattle.wap_execution.specs.laws.Keyed.{gone_on}
use Rattle.wap_execution.proofs.LawsLemmas.RunLaws.{Any, any_keeps, finished_follows}
use Rattle.wap_world.specs.declared.history.Entry.{Entry}
use Rattle.wap_world.specs.declared.timer.Timer.TheVariants.{NotStarted, Running}
use Rattle.wap_world.specs.Shelves.{Shelf}
use Rattle.wap_world.specs.World.{World, place_of, last_entry}
use Rattle.wap_world.specs.Steps.{Step}
use Rattle.wap_world.specs.History.{KeepsToLimit}
use Rattle.wap_world.specs.Sites.{Call}
use Rattle.wap_world.specs.session_laws.Scripts.{GivesNoTurns, MakesNoKeys}
use Rattle.wap_world.specs.session_laws.Standing.{StandsOnCard}
use Rattle.wap_world.specs.scripting.UnitSites.{Pages, unit_under, keyed_host, started_at}
use Rattle.wap_world.specs.scripting.UnitSites.{units_site}
use Rattle.wap_world.proofs.Alike.{Fact}
use Rattle.wap_world.proofs.Invariants.{RunsKeep}
use Rattle.wap_world.proofs.Entries.{last_none}
use Rattle.wap_world.proofs.Hosts.Kin.{Change, Anew, changed, last_changed, Kinship, InScripts}
use Rattle.wap_world.proofs.Hosts.Kin.{keeping}
use Rattle.wap_world.proofs.Hosts.Calls.{itself}
use Rattle.wap_world.proofs.Hosts.Dialogs.{keeping_dwells}
use Rattle.wap_world.proofs.Hosts.Runs.{parts_of, hosts_alike, resumed_holds, runs_alike}

-- what is so inside scripts, each script keeps
pub scripts_keep : (J : Fact) → InScripts J → (call : List ℕ → Option Call) (pages : Pages)
    → RunsKeep J (units_site call pages)
unfolding units_site
scripts_keep J keeps call pages name base referer index arguments turns step so =
    elim (runs_alike J keeps (itself (λ s. J s.keys s.world) (parts_of pages)) name base referer
    index arguments turns step tt so) [
      | inl same ↦ same.1
      | inr lost ↦ absurd lost.0
    ]

-- no script gives turns back
pub units_fall : (call : List ℕ → Option Call) (pages : Pages)
    → GivesNoTurns (units_site call pages)
unfolding units_site
units_fall call pages name base referer index arguments turns step =
    let function : Function = record {
      unit = unit_under pages name;
      base = base;
      referer = referer;
      index = index;
    } in
    let setting = uncounted step.world.limits (keyed_host pages) in
    (finished_follows setting Any (any_keeps setting)
    (started_at function arguments (code_at function)) turns step).turns_fall

-- ---- keys

-- no more keys are left than these
abbrev pub Few : ℕ → Fact
Few most k w = length k ≤ most

-- and so it is whatever scripts do
few_in_scripts : (most : ℕ) → InScripts (Few most)
few_in_scripts most = record {
  turns = λ k w n few. few;
  changes = λ change k w few. few;
  takes = λ one k w few. omega (arith, few);
  counts = λ k w time left is few. few;
  expires = λ k w time is few. few;
}

-- of both steps, which are the same
abbrev few_keys : ℕ → Kinship
few_keys most = keeping (Few most) (few_in_scripts most)

-- no script makes keys
pub units_few : (call : List ℕ → Option Call) (pages : Pages) → MakesNoKeys (units_site call pages)
units_few call pages name base referer index arguments turns step =
    let most = length step.keys in
    scripts_keep (Few most) (few_in_scripts most) call pages name base referer index arguments turns
    step (omega arith)

-- nor does a script that goes on with an answer
pub gone_few : (pages : Pages) (limits : Limits) (frames : List Frame) (gave : HostOut) (turns : ℕ)
    (s : Step)
    → let end = gone_on (uncounted limits (keyed_host pages)) (λ e. e) frames gave turns s in
    length end.state.keys ≤ length s.keys
gone_few pages limits frames (out.Value v) turns s =
    let most = length s.keys in
    resumed_holds (few_keys most) (keyed_host pages) (hosts_alike (few_keys most)
    (itself (few_keys most).So (parts_of pages)) (keeping_dwells (Few most) (few_in_scripts most)))
    limits frames v turns s s (record { is = refl; so = omega arith })
gone_few pages limits frames gave turns s = omega arith

-- ---- the history

-- one entry is within its limit
one_entry : {limit : ℕ} (o : Option Entry) → 1 ≤ limit → length (option_to_list o) ≤ limit
one_entry None some = omega arith
one_entry (Some entry) some = omega (arith, some)

-- a library's changes leave it within its limit
limit_changed : (change : Change) (w : World) → KeepsToLimit w → KeepsToLimit (changed change w)
limit_changed Anew w b = record { some = b.some; few = one_entry (last_entry w) b.some }
limit_changed change w b = record { some = b.some; few = b.few }

-- and so does whatever scripts do
pub limit_in_scripts : InScripts (λ k. KeepsToLimit)
limit_in_scripts = record {
  turns = λ k w n b. record { some = b.some; few = b.few };
  changes = λ change k. limit_changed change;
  takes = λ one k w b. b;
  counts = λ k w time left is b. record { some = b.some; few = b.few };
  expires = λ k w time is b. record { some = b.some; few = b.few };
}

-- ---- the card

-- a timer that runs was started
runs_not : (w : World) (time : ℕ) → w.timer ≡ Running time → w.timer ≡ NotStarted → ⊥
runs_not w time is none = absurd (cc)

module _ (shelf : Shelf) where
  -- a library's changes leave a world on its card
  card_changed : (change : Change) (w : World) → StandsOnCard shelf w
      → StandsOnCard shelf (changed change w)
  card_changed Anew w stands =
      let last = last_changed Anew w in record {
        card = ap (λ o. is_some (option_and_then (place_of shelf) o)) last ∙ stands.card
            ∙ sym (ap is_some last);
        timer = λ none. stands.timer (last_none w.history (sym last ∙ ap (last_or None) none));
      }
  card_changed change w stands = record { card = stands.card; timer = stands.timer }

  -- and so does whatever scripts do
  pub card_in_scripts : InScripts (λ k. StandsOnCard shelf)
  card_in_scripts = record {
    turns = λ k w n s. record { card = s.card; timer = s.timer };
    changes = λ change k. card_changed change;
    takes = λ one k w s. s;
    counts = λ k w time left is s. record {
      card = s.card;
      timer = λ none. absurd (runs_not w time is (s.timer none));
    };
    expires = λ k w time is s. record {
      card = s.card;
      timer = λ none. absurd (runs_not w time is (s.timer none));
    };
  }
