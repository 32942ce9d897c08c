-- A machine that runs over pages comes to what the definitions say.
use Rattle.std.proofs.Common.{◌≡◌, ◌∙◌, inl, inr, ◌≤◌, ◌<◌, ◌+◌, ℕ, Bool, false}
use Rattle.std.proofs.Common.{List, [], ◌∷◌, ◌++◌, Option, Some, None, Ok, Err, refl, sym, ap, ap₂}
use Rattle.std.proofs.Common.{subst, arith, append_assoc, append-nil}
use Rattle.std.specs.Prelude.{Result, IfSome, unwrap_or, if◌then◌else◌, ◌||◌}
use Rattle.std.specs.Option.{option_map, option_and_then}
use Rattle.wap_base.specs.declared.fault.RunErr.{RunErr}
use Rattle.wap_base.specs.declared.fault.RunErr.TheVariants.{Store}
use Rattle.wap_base.specs.declared.limits.Limits.{Limits}
use Rattle.wap_url.specs.declared.url.Url.{Url}
use Rattle.wap_base.specs.declared.key.Key.{Key}
use Rattle.wap_execution.specs.Outcomes.{Outcome as Meant, waits, Ended}
use Rattle.wap_execution.specs.laws.Simulation.{ComeToSame, IsKin}
use Rattle.wap_machine.specs.Hosts.{AtMost, Fetches}
use Rattle.wap_machine.specs.Stacks.{Stack}
use Rattle.wap_machine.specs.Runs.{run_of as machine_run, IsEnd, KeepsLimits}
use Rattle.wap_machine.specs.declared.machine.Outcome.{Outcome}
use Rattle.wap_world.specs.site.Pages.{Pages as JudgedPages}
use Rattle.wap_world.specs.site.Misses.{Cache, Asked as Question, is_miss, after_asking, after_all}
use Rattle.wap_world.specs.site.Misses.{misses}
use Rattle.wap_world.specs.site.Asking.{Seen, MayBe, RoseBy, Stays, Asks, Fails}
use Rattle.wap_world.specs.declared.history.Entry.{Entry}
use Rattle.wap_world.specs.World.{World, Place, place_now, deck_at, last_entry}
use Rattle.wap_world.specs.Steps.{Step, Once, quiet, after_step}
use Rattle.wap_world.specs.Starting.{in_world}
use Rattle.wap_world.proofs.Joining.{once_before, or_false}
use Rattle.wap_world.specs.scripting.UnitSites.{Pages, shelf_of, host_of, unit_pages, end_of}
use Rattle.wap_world.specs.scripting.Views.{Counted, counted_all, View, viewing, view_of, Shows}
use Rattle.wap_world.specs.scripting.Views.{IsAtHand, NoStep, NoView}
use Rattle.wap_world.specs.scripting.Waiting.{Waits, inside}
use Rattle.wap_world.specs.scripting.Halves.{Half, half_by, half_of, once_by, once_of}
use Rattle.wap_world.proofs.Hosts.Kin.{Kinship, staying}
use Rattle.wap_world.proofs.Hosts.Runs.{parts_of, moved_alike, finished_holds}
use Rattle.wap_world.proofs.ScriptingLawsLemmas.Runs.{starts}
use Rattle.wap_world.proofs.ScriptingLawsLemmas.Viewing.{views_run_alike}
use Rattle.wap_state.specs.Scenes.{Line}
use Rattle.wap_context.specs.host.Stages.{Stage, told, counted_in, fetched_in}
use Rattle.wap_context.specs.declared.waiting.Went.{Went}
use Rattle.wap_context.specs.Browsers.{Browser, IsOver, place_held}
use Rattle.wap_world.proofs.SiteLemmas.Failing.{Fails-more}
use Rattle.wap_context.specs.inside.Moving.{Moves, Goes, Takes}
use Rattle.wap_context.specs.inside.Starting.{run_of, run_with, CameTo, RunsTo, end_at, waits_by}
use Rattle.wap_context.proofs.Places.{held_now}
use Rattle.wap_context.proofs.Ending.{end_is, half_is}

-- ---- a run opens no dialog

-- none is open, whatever is added to a step
abbrev shut : Kinship
shut = staying (λ s. s.is_open ≡ false) (record {
  more = λ lines asked tests s shut. or_false s.is_open ∙ shut;
  changes = λ change s shut. shut;
})

run_shut : (pages : Pages) (machine : Stack) (first : List Line) (world : World)
    → (run_of machine first pages world).state.is_open ≡ false
run_shut pages machine first world =
    let s = quiet [] (record { world = inside world; lines = first }) in
    finished_holds shut (host_of pages) (moved_alike shut (parts_of pages)) machine.limits
    machine.frames world.turns s s (record { is = refl; so = refl })

-- ---- counts

-- pages that are asked for, one after the other
counted_is : (asked : List Question) (cache : Cache) (fetches : ℕ)
    → counted_all asked (Some (record { cache = cache; fetches = fetches }))
    ≡ Some (record {
      cache = after_all asked cache;
      fetches = fetches + misses asked cache;
    })
counted_is [] cache fetches =
    ap (λ (n : ℕ). Some (record { cache = cache; fetches = n })) (omega arith)
counted_is (one ∷ others) cache fetches =
    let some = if is_miss one cache then 1 else 0 in
    let kept = after_asking one cache in
    counted_is others kept (fetches + some)
    ∙ ap (λ (n : ℕ). Some (record { cache = after_all others kept; fetches = n }))
    (omega arith)

counted_none : (asked : List Question) → counted_all asked None ≡ None
counted_none [] = refl
counted_none (one ∷ others) = counted_none others

abbrev counted_by : Option Cache → ℕ → Option Counted
counted_by cache fetches =
    option_map (λ (c : Cache). record { cache = c; fetches = fetches }) cache

some_none : (c : Counted) → Some c ≡ None → ⊥
some_none c same = absurd (cc)

-- what is counted of pages tells that they were asked for
cache_by : (asked : List Question) (x y : Option Cache) (k l : ℕ)
    → counted_by y l ≡ counted_all asked (counted_by x k)
    → (y ≡ option_map (after_all asked) x)
    × IfSome x (λ cache. l ≡ k + misses asked cache)
cache_by asked None None k l is = (refl, tt)
cache_by asked None (Some d) k l is =
    absurd (some_none (record { cache = d; fetches = l }) (is ∙ counted_none asked))
cache_by asked (Some c) None k l is = absurd (some_none (record {
  cache = after_all asked c;
  fetches = k + misses asked c;
}) (sym (is ∙ counted_is asked c k)))
cache_by asked (Some c) (Some d) k l is =
    let same = is ∙ counted_is asked c k in
    let none : Counted = record { cache = c; fetches = k } in (
      ap (λ (o : Option Counted). Some (unwrap_or o none).cache) same,
      ap (λ (o : Option Counted). (unwrap_or o none).fetches) same,
    )

asks_by : (asked : List Question) (seen after : Seen) → after.faults ≡ seen.faults
    → counted_in after ≡ counted_all asked (counted_in seen) → Asks asked seen after
asks_by asked seen after steady is =
    let both = cache_by asked seen.cache after.cache seen.fetches after.fetches is in
    record { cache = both.0; fetches = both.1; steady = steady }

-- ---- a store that failed

missed_by : (asked : List Question) (cache : Option Cache) (end : View) (k l : ℕ)
    → end.counted ≡ counted_all asked (counted_by cache k)
    → Fetches (option_map (λ (c : Counted). c.fetches) (counted_by cache k)) l (fetched_in end)
    → IfSome cache (λ one. RoseBy (misses asked one) k l)
missed_by asked None end k l is so = tt
missed_by asked (Some cache) end k l is so = (
  so.0,
  subst (λ (o : Option Counted). AtMost l (option_map (λ (c : Counted). c.fetches) o))
      (is ∙ counted_is asked cache k) so.1,
)

-- ---- over known pages

module _ (machine : Stack) (first : List Line) (seen after : Seen) (old : Browser) where
  -- what the run sees at first
  abbrev begins : Stage
  begins = record {
    world = inside old.world;
    deck = old.deck;
    lines = first;
    turns = old.world.turns;
  }

  module _ (pages : Pages) (over : IsOver (shelf_of pages) old) where
    abbrev before : Step
    before = quiet [] (record { world = inside old.world; lines = first })

    abbrev view : View
    view = view_of pages old.deck (counted_in seen) before

    abbrev end : Ended Step
    end = run_of machine first pages old.world

    abbrev seen_end : Ended View
    seen_end = machine_run machine viewing old.world.turns view

    at_hand : IsAtHand pages old.deck (last_entry old.world)
    at_hand = held_now (shelf_of pages) old over

    is_kin : ComeToSame (Shows pages old.deck (counted_in seen) (last_entry old.world)) NoStep
        NoView
        end seen_end
        → IsKin (Shows pages old.deck (counted_in seen) (last_entry old.world)) end seen_end
    is_kin (inl kin) = kin
    is_kin (inr lost) = absurd (lost.0)

    both_ends : IsKin (Shows pages old.deck (counted_in seen) (last_entry old.world)) end seen_end
    both_ends = is_kin ((views_run_alike pages old.deck (counted_in seen) (last_entry old.world)
        at_hand
        machine.limits).finishing machine.frames old.world.turns before view
        (record { is = refl; last = refl }))

    came_to : (new : Browser) (stage : Stage) (outcome : Outcome) (lines : List Line) (now : View)
        → new ≡ record {
          world = record stage.world { turns = stage.turns };
          deck = stage.deck;
        } → lines ≡ stage.lines → after.faults ≡ seen.faults
        → now ≡ record {
          world = stage.world;
          deck = stage.deck;
          lines = stage.lines;
          pages = pages;
          counted = counted_in after;
        }
        → IsEnd seen_end outcome stage.turns now
        → CameTo pages end seen after new outcome lines
    came_to new stage outcome lines now new_is lines_is steady now_is is =
        let kin = both_ends in
        let some : now ≡ view_of pages old.deck (counted_in seen) end.state =
        is.state_is ∙ kin.state.is in
        let same = sym now_is ∙ some in
        let world_is : new.world ≡ record end.state.world { turns = end.turns } =
        ap (λ (b : Browser). b.world) new_is
        ∙ ap₂ (λ (v : View) (n : ℕ). record v.world { turns = n }) same
        (is.turns_are ∙ sym kin.turns) in
        record {
          outcome_is = is.outcome_is ∙ sym kin.outcome;
          world = world_is;
          lines_are = lines_is ∙ ap (λ (v : View). v.lines) same;
          closed = run_shut pages machine first old.world;
          asks = asks_by end.state.asked seen after steady (ap (λ (v : View). v.counted) same);
          over =
              ap (λ (w : World). option_and_then (λ (e : Entry). deck_at (shelf_of pages) e.url)
              (last_entry w)) world_is
              ∙ ap (option_and_then (λ (e : Entry). deck_at (shelf_of pages) e.url)) kin.state.last
              ∙ over ∙ sym (ap (λ (b : Browser). b.deck) new_is ∙ ap (λ (v : View). v.deck) same);
        }

    missed_at : seen.faults < after.faults
        → Fetches (fetched_in view) after.fetches (fetched_in seen_end.state)
        → Fails end.state.asked seen after
    missed_at rose so = record {
      rose = rose;
      fetches = missed_by end.state.asked seen.cache seen_end.state seen.fetches after.fetches
          (ap (λ (v : View). v.counted) both_ends.state.is) so;
    }

  -- what is known of the machine that ran
  pub runs_ok : (new : Browser) (stage : Stage) (outcome : Outcome) (lines : List Line)
      (begun : Stage) → begun ≡ begins
      → new ≡ record { world = record stage.world { turns = stage.turns }; deck = stage.deck }
      → lines ≡ stage.lines → Stays seen after → after.faults ≡ seen.faults
      → ((judged : JudgedPages) → MayBe after judged
      → IsEnd (machine_run machine viewing begun.turns (told begun seen judged)) outcome stage.turns
      (told stage after judged))
      → KeepsLimits machine.limits outcome → stage.turns ≤ begun.turns
      → RunsTo machine first seen after old new (Ok (outcome, lines))
  runs_ok new stage outcome lines begun begun_is new_is lines_is stays steady so keeps fewer =
      record {
        came = λ judged may over.
            came_to (unit_pages judged) over new stage outcome lines (told stage after judged)
            new_is lines_is steady refl
            (subst (λ (s : Stage). IsEnd (machine_run machine viewing s.turns (told s seen judged))
            outcome stage.turns (told stage after judged)) begun_is (so judged may));
        steady = steady;
        missed = λ failed. absurd (cc);
        rose = λ failed. absurd (cc);
        stays = stays;
        turns = omega (
          arith,
          fewer,
          ap (λ (s : Stage). s.turns) begun_is,
          ap (λ (b : Browser). b.world.turns) new_is,
        );
        limits = keeps;
      }

  store_of : (err : RunErr) → ◌≡◌ {A = Result (Outcome × List Line) RunErr} (Err err) (Err Store)
      → err ≡ Store
  store_of err is = cc

  pub runs_err : (new : Browser) (err : RunErr) (begun : Stage) → begun ≡ begins
      → Stays seen after → (err ≡ Store → seen.faults < after.faults)
      → (err ≡ Store → (judged : JudgedPages) → MayBe after judged
      → Fetches (fetched_in (told begun seen judged)) after.fetches
      (fetched_in (machine_run machine viewing begun.turns (told begun seen judged)).state))
      → RunsTo machine first seen after old new (Err err)
  runs_err new err begun begun_is stays rose so = record {
    came = tt;
    steady = tt;
    missed = λ failed judged may over.
        let store = store_of err failed in
        missed_at (unit_pages judged) over (rose store)
        (subst (λ (s : Stage). Fetches (fetched_in (told s seen judged)) after.fetches
        (fetched_in (machine_run machine viewing s.turns (told s seen judged)).state)) begun_is
        (so store judged may));
    rose = λ failed. rose (store_of err failed);
    stays = stays;
    turns = tt;
    limits = tt;
  }

-- ---- what follows its end

module _ (machine : Stack) (base : Url) (first : List Line) (seen after : Seen)
    (old mid new : Browser)
    (before line shown : List Line) (outcome : Outcome) (more : List Line) (went : Went)
    (added : line ≡ before ++ more)
    (moves : Moves (end_at (place_held mid) base outcome mid.world) (waits_by base outcome)
    (λ shelf. IsOver shelf mid) mid new line shown went)
    (keeps : KeepsLimits machine.limits outcome)
  where
    goes_to_end : (pages : Pages)
        → CameTo pages (run_of machine first pages old.world) seen after mid outcome more
        → Goes pages (λ keys. run_with machine base first pages keys old.world) seen after new
        before
        shown went
    goes_to_end pages came =
        let shelf = shelf_of pages in
        let end = run_of machine first pages old.world in
        let step = in_world (record end.state.world { turns = end.turns }) end.state in
        let place = place_now shelf step.world in
        let tail = end_at (place_held mid) base outcome mid.world in
        let did = after_step step (once_before step.keys tail) in
        let tail_is : end_at place base outcome step.world ≡ tail =
        ap (λ (w : World). end_at (place_now shelf w) base outcome w) (sym came.world)
        ∙ ap (λ (p : Option Place). end_at p base outcome mid.world) (held_now shelf mid came.over)
        in
        let half : half_of machine.limits shelf base end
        ≡ record { once = did; waiting = waits_by base outcome } =
        ap (λ (o : Meant). half_by machine.limits place base o step) (sym came.outcome_is)
        ∙ half_is machine.limits place base outcome step keeps
        ∙ ap (λ (o : Once). record {
          once = after_step step (once_before step.keys o);
          waiting = waits_by base outcome;
        }) tail_is in
        record {
          did = did;
          world = moves.world;
          lines = moves.lines
              ∙ ap (λ (l : List Line). l ++ tail.step.lines)
              (added ∙ ap (λ (l : List Line). before ++ l) came.lines_are)
              ∙ append_assoc before end.state.lines tail.step.lines;
          leads = moves.leads;
          closed = ap₂ (λ (a b : Bool). a || b) came.closed moves.closed;
          over = moves.over shelf came.over;
          asks = subst (λ (a : List Question). Asks a seen after)
              (sym (ap (λ (a : List Question). end.state.asked ++ a) moves.asked
              ∙ append-nil end.state.asked)) came.asks;
          on = λ keys.
              starts pages base machine.limits machine.frames old.world.turns
              (record { world = inside old.world; lines = first }) keys refl
              ∙ ap (λ (h : Half). once_of pages h keys) half
              ∙ ap (λ (o : Option Waits). once_by pages did o keys) (sym moves.waits);
        }

-- out of memory after it
pub ended_ok : (machine : Stack) (base : Url) (first : List Line) (seen after : Seen)
    (old mid new : Browser) (before line shown : List Line) (outcome : Outcome) (more : List Line)
    (went : Went) → line ≡ before ++ more
    → Moves (end_at (place_held mid) base outcome mid.world) (waits_by base outcome)
    (λ shelf. IsOver shelf mid) mid new line shown went
    → RunsTo machine first seen after old mid (Ok (outcome, more))
    → Takes (run_with machine base first) seen after old new before shown (Ok went)
ended_ok machine base first seen after old mid new before line shown outcome more went added moves
    runs = record {
      follows = λ judged may over.
          goes_to_end machine base first seen after old mid new before line shown outcome more went
          added moves runs.limits (unit_pages judged) (runs.came judged may over);
      steady = runs.steady;
      missed = λ failed. absurd (cc);
      rose = λ failed. absurd (cc);
      stays = runs.stays;
      turns = omega (arith, runs.turns, moves.turns);
    }

outcome_err : (err : RunErr) → ◌≡◌ {A = Result Went RunErr} (Err err) (Err Store)
    → ◌≡◌ {A = Result (Outcome × List Line) RunErr} (Err err) (Err Store)
outcome_err err is = cc

-- what is asked for at the end of a script
half_asks : (limits : Limits) (place : Option Place) (base : Url) (outcome : Meant) (step : Step)
    → (rest : List Question)
    × ((half_by limits place base outcome step).once.step.asked ≡ step.asked ++ rest)
half_asks limits place base (waits dialog frames) step = ([], sym (append-nil step.asked))
half_asks limits place base outcome step =
    (_, ap (λ (o : Once). o.step.asked) (end_is place base (end_of outcome) step))

-- with keys
once_asks : (pages : Pages) (once : Once) (o : Option Waits) (keys : List Key)
    → (rest : List Question) × ((once_by pages once o keys).step.asked ≡ once.step.asked ++ rest)
once_asks pages once None keys = ([], sym (append-nil once.step.asked))
once_asks pages once (Some one) keys = (_, refl)

-- what the run asked for is what the definition's navigation asks for first
run_asks : (machine : Stack) (base : Url) (first : List Line) (pages : Pages) (old : Browser)
    → (rest : List Question) × ((run_with machine base first pages [] old.world).step.asked
    ≡ (run_of machine first pages old.world).state.asked ++ rest)
run_asks machine base first pages old =
    let end = run_of machine first pages old.world in
    let half = half_of machine.limits (shelf_of pages) base end in
    let step = in_world (record end.state.world { turns = end.turns }) end.state in
    let place = place_now (shelf_of pages) step.world in
    let one = half_asks machine.limits place base end.outcome step in
    let other = once_asks pages half.once half.waiting [] in (
      one.0 ++ other.0,
      ap (λ (o : Once). o.step.asked)
          (starts pages base machine.limits machine.frames old.world.turns
          (record { world = inside old.world; lines = first }) [] refl)
          ∙ other.1 ∙ ap (λ (a : List Question). a ++ other.0) one.1
          ∙ append_assoc end.state.asked one.0 other.0,
    )

pub ran_err : (machine : Stack) (base : Url) (first : List Line) (seen after : Seen)
    (old new : Browser) (before shown : List Line) (err : RunErr)
    → RunsTo machine first seen after old new (Err err)
    → Takes (run_with machine base first) seen after old new before shown (Err err)
ran_err machine base first seen after old new start shown err runs = record {
  follows = tt;
  steady = tt;
  missed = λ failed judged may over.
      let pages = unit_pages judged in
      let rest = run_asks machine base first pages old in
      subst (λ (a : List Question). Fails a seen after) (sym rest.1)
      (Fails-more (run_of machine first pages old.world).state.asked rest.0 seen after
      (runs.missed (outcome_err err failed) judged may over));
  rose = λ failed. runs.rose (outcome_err err failed);
  stays = runs.stays;
  turns = tt;
}
