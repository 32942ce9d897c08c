-- Two hosts whose dialogs are answered by the keys that are left, and runs of scripts in them.
use Rattle.std.proofs.Common.{◌≡◌, inl, inr, ℕ, List, Option, Some, refl, sym, ap, ◌∙◌, subst}
use Rattle.wap_base.specs.declared.limits.Limits.{Limits}
use Rattle.wap_base.specs.declared.key.Key.{Key}
use Rattle.wap_url.specs.declared.url.Url.{Url}
use Rattle.wap_value.specs.declared.value.Value.{Value}
use Rattle.wap_unit.specs.declared.unit.Unit.{Unit as CodeUnit}
use Rattle.wap_execution.specs.declared.library.HostOut.{HostOut}
use Rattle.wap_execution.specs.Frames.{Function, Frame, code_at}
use Rattle.wap_execution.specs.Outcomes.{Ended, Hosting}
use Rattle.wap_execution.specs.Running.{resumed, finished}
use Rattle.wap_execution.specs.laws.Settings.{uncounted}
use Rattle.wap_execution.specs.laws.Keyed.{answered_in, keyed}
use Rattle.wap_execution.specs.laws.Simulation.{Stays, Both, AreAlike, ComeToSame}
use Rattle.wap_execution.proofs.LawsLemmas.SimLaws as sim_laws
use Rattle.wap_world.specs.Steps.{Step, then_step, still, quiet}
use Rattle.wap_world.specs.Sites.{External, Call, Ran, Site}
use Rattle.wap_world.specs.scripting.Dialogs.{by_keys}
use Rattle.wap_world.specs.World.{World, Place, place_now}
use Rattle.wap_world.specs.Shelves.{Shelf}
use Rattle.wap_url.specs.Printing.{name_for}
use Rattle.wap_world.specs.scripting.UnitSites.{Pages, shelf_of, externals_of, unit_under, ran_of}
use Rattle.wap_world.specs.scripting.UnitSites.{started_at}
use Rattle.wap_world.specs.scripting.Views.{NoStep}
use Rattle.wap_world.proofs.Alike.{Fact, IsLost}
use Rattle.wap_world.proofs.Walk.{Kept, RanAlike, SitesAlike}
use Rattle.wap_world.proofs.Joining.{joined_nothing}
use Rattle.wap_world.proofs.Hosts.Kin.{Kinship, Kin, after, InScripts, keeping}
use Rattle.wap_world.proofs.Hosts.Calls.{Parts, host_with, Pair, itself, Alike, IsGone, gone_first}
use Rattle.wap_world.proofs.Hosts.Calls.{external_alike, library_alike}
use Rattle.wap_world.proofs.Hosts.Dialogs.{Dwells, in_given, after_dwells, keeping_dwells}

-- the host whose dialogs are answered by the keys that are left
abbrev pub keyed_with : Parts → Hosting Step
keyed_with one = keyed (by_keys one.shelf) (host_with one)

-- what the host of a shelf with these scripts is made of
abbrev pub parts_with : Shelf → (List ℕ → List ℕ → Option External) → (List ℕ → CodeUnit) → Parts
parts_with shelf names code =
    record { shelf = shelf; now = place_now shelf; names = names; code = code }

-- and that of units among pages
abbrev pub parts_of : Pages → Parts
parts_of pages = parts_with (shelf_of pages) (externals_of pages) (unit_under pages)

-- ---- a host beside itself

-- where nothing is lost, that stays so
pub never_stays : {S : Type 0} (host : Hosting S) → Stays host (λ s. ⊥)
never_stays host = record {
  external = λ s caller url name count working no. absurd no;
  library = λ s base referer number index arguments no. absurd no;
}

-- calls don't see how steps are moved, and leave what is so of them
pub moved_alike : (k : Kinship) (parts : Parts)
    → AreAlike (Kin k) NoStep NoStep (host_with parts) (host_with parts)
moved_alike k parts = record {
  external = λ s t caller url name count working kin.
      external_alike k (itself k.So parts) caller name count working url s t kin;
  library = λ s t base referer number index arguments kin.
      library_alike k (itself k.So parts) s t kin base referer number index arguments;
  stays = never_stays (host_with parts);
  stays' = never_stays (host_with parts);
}

-- ---- what is lost

module _ (k : Kinship) (pair : Pair k.So) where
  -- what doesn't see what stands before takes nothing back
  lost_by : {A : Type 0} (f : Step → A × Step) (s : Step)
      → ((t u : Step) → Kin (after s) t u → Both (Kin (after s)) NoStep NoStep (f t) (f u))
      → IsGone k pair s → IsGone k pair (f s).1
  lost_by f s unseen lost = by (unseen t (then_step s t) (record { is = refl; so = tt }))
    where
      t : Step
      t = quiet s.keys (still s.world)

      by : Both (Kin (after s)) NoStep NoStep (f t) (f (then_step s t)) → IsGone k pair (f s).1
      by (inr none) = absurd none.0
      by (inl given) =
          subst (IsLost pair.Lost)
          (sym (ap (λ (u : Step). (f u).1) (sym (joined_nothing s s.keys)) ∙ given.1.is))
          (gone_first k pair s (f t).1 lost)

  module _ (parts : Parts) where
    -- an answer by keys
    in_lost : (gave : HostOut) (s : Step) → IsGone k pair s
        → IsGone k pair (answered_in (by_keys parts.shelf) gave s).1
    in_lost gave s =
        lost_by (λ u. answered_in (by_keys parts.shelf) gave u) s
        (λ t u kin. inl (in_given (after s) (after_dwells s) parts.shelf parts.shelf (λ v so. refl)
        gave t u kin))

    -- any call
    lost_stays : Stays (keyed_with parts) (IsGone k pair)
    lost_stays = record {
      external = λ s caller url name count working.
          lost_by (λ u. (host_with parts).external u caller url name count working) s
          (λ t u. (moved_alike (after s) parts).external t u caller url name count working);
      library = λ s base referer number index arguments lost.
          let gave = (host_with parts).library s base referer number index arguments in
          in_lost gave.0 gave.1
          (lost_by (λ u. (host_with parts).library u base referer number index arguments) s
          (λ t u. (moved_alike (after s) parts).library t u base referer number index arguments)
          lost);
    }

  -- ---- both hosts

  module _ (dwells : Dwells k) where
    -- answers to what is alike
    answers_alike : (a b : HostOut × Step) → Alike k pair a b
        → Alike k pair (answered_in (by_keys pair.one.shelf) a.0 a.1)
        (answered_in (by_keys pair.other.shelf) b.0 b.1)
    answers_alike a b (inl given) =
        subst (λ (g : HostOut). Alike k pair (answered_in (by_keys pair.one.shelf) a.0 a.1)
        (answered_in (by_keys pair.other.shelf) g b.1)) given.0
        (inl (in_given k dwells pair.one.shelf pair.other.shelf pair.here a.0 a.1 b.1 given.1))
    answers_alike a b (inr lost) =
        inr (in_lost pair.one a.0 a.1 lost.0, in_lost pair.other b.0 b.1 lost.1)

    -- do the same until they are lost
    pub hosts_alike : AreAlike (Kin k) (IsGone k pair) (IsGone k pair) (keyed_with pair.one)
        (keyed_with pair.other)
    hosts_alike = record {
      external = λ s t caller url name count working kin.
          external_alike k pair caller name count working url s t kin;
      library = λ s t base referer number index arguments kin.
          answers_alike ((host_with pair.one).library s base referer number index arguments)
          ((host_with pair.other).library t base referer number index arguments)
          (library_alike k pair s t kin base referer number index arguments);
      stays = lost_stays pair.one;
      stays' = lost_stays pair.other;
    }

-- ---- runs

-- what is so of a step before a run is so after it, by a host beside itself
module _ (k : Kinship) (host : Hosting Step) (alike : AreAlike (Kin k) NoStep NoStep host host)
    (limits : Limits) where
  -- after two runs that came to the same
  after_holds : (end end' : Ended Step) → ComeToSame (Kin k) NoStep NoStep end end'
      → k.So end.state
  after_holds end end' (inl kin) = kin.state.so
  after_holds end end' (inr lost) = absurd lost.0

  -- after frames that go on
  pub finished_holds : (frames : List Frame) (turns : ℕ) (s t : Step) → Kin k s t
      → k.So (finished (uncounted limits host) frames turns s).state
  finished_holds frames turns s t kin =
      after_holds (finished (uncounted limits host) frames turns s)
      (finished (uncounted limits host) frames turns t)
      ((sim_laws.agrees (Kin k) NoStep NoStep limits host host alike).finishing frames turns s t
      kin)

  -- and after frames that go on with a value
  pub resumed_holds : (frames : List Frame) (v : Value) (turns : ℕ) (s t : Step) → Kin k s t
      → k.So (resumed (uncounted limits host) frames v turns s).state
  resumed_holds frames v turns s t kin =
      after_holds (resumed (uncounted limits host) frames v turns s)
      (resumed (uncounted limits host) frames v turns t)
      ((sim_laws.agrees (Kin k) NoStep NoStep limits host host alike).resuming frames v turns s t
      kin)

-- a function at its beginning
abbrev started_in : Url → Option Url → ℕ → List Value → CodeUnit → List Frame
started_in base referer index arguments unit =
    let function : Function = record {
      unit = unit;
      base = base;
      referer = referer;
      index = index;
    } in
    started_at function arguments (code_at function)

-- what a function of the script of a name comes to
abbrev pub run_with : Parts → List ℕ → Url → Option Url → ℕ → List Value → ℕ → Step → Ran
run_with one name base referer index arguments turns step =
    ran_of (finished (uncounted step.world.limits (keyed_with one))
    (started_in base referer index arguments (one.code name)) turns step)

-- the site of such scripts; `call` reads what a fragment calls
abbrev pub site_with : (List ℕ → Option Call) → Parts → Site
site_with call one =
    record { shelf = one.shelf; external = one.names; run = run_with one; call = call }

-- runs of scripts that run are the same and leave what is so, or both are lost
module _ (J : Fact) (keeps : InScripts J) (pair : Pair (λ s. J s.keys s.world)) where
  -- ends of runs that come to the same
  ran_alike : (a b : Ended Step)
      → ComeToSame (Kin (keeping J keeps)) (IsLost pair.Lost) (IsLost pair.Lost) a b
      → RanAlike J pair.Lost (ran_of a) (ran_of b)
  ran_alike a b (inl kin) = inl (
    λ i. ran_of (record {
      outcome = kin.outcome i;
      turns = kin.turns i;
      state = sym kin.state.is i;
    }),
    keeps.turns a.state.keys a.state.world a.turns kin.state.so,
  )
  ran_alike a b (inr lost) = inr lost

  -- a script that runs
  pub runs_alike : (name : List ℕ) (base : Url) (referer : Option Url) (index : ℕ)
      (arguments : List Value) (turns : ℕ) (s : Step) → pair.Runs name
      → J s.keys (record s.world { turns = turns })
      → RanAlike J pair.Lost (run_with pair.one name base referer index arguments turns s)
      (run_with pair.other name base referer index arguments turns s)
  runs_alike name base referer index arguments turns s runs so =
      let limits = s.world.limits in
      let started = started_in base referer index arguments in
      let frames = started (pair.one.code name) in
      subst (λ (u : CodeUnit). RanAlike J pair.Lost
      (run_with pair.one name base referer index arguments turns s)
      (ran_of (finished (uncounted limits (keyed_with pair.other)) (started u) turns s)))
      (pair.codes name runs)
      (ran_alike (finished (uncounted limits (keyed_with pair.one)) frames turns s)
      (finished (uncounted limits (keyed_with pair.other)) frames turns s)
      ((sim_laws.agrees (Kin (keeping J keeps)) (IsLost pair.Lost) (IsLost pair.Lost) limits
      (keyed_with pair.one) (keyed_with pair.other)
      (hosts_alike (keeping J keeps) pair (keeping_dwells J keeps))).finishing frames turns s s
      (record {
        is = refl;
        so = keeps.turns s.keys (record s.world { turns = turns }) s.world.turns so;
      })))

  -- ---- sites

  module _ (call : List ℕ → Option Call) where
    -- with such scripts, where the changes of a world keep what is so
    pub sites_alike : Kept J J pair.Fine pair.one.shelf
        → ((k : List Key) (w : World) (place : Place) → J k w
        → place_now pair.one.shelf w ≡ Some place → pair.Fine (name_for place.url))
        → SitesAlike J J pair.Lost pair.Fine pair.Runs (site_with call pair.one)
        (site_with call pair.other)
    sites_alike kept fine = record {
      losing = pair.losing;
      kept = kept;
      unanswered = λ step so. inl so;
      call = refl;
      place = λ k w so. pair.here (quiet k (still w)) so;
      fine = fine;
      asks = pair.asks;
      pages = pair.pages;
      lets_in = pair.lets_in;
      externals = pair.names;
      runs = runs_alike;
    }
