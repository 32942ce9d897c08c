-- All that a navigation leads to, with any keys after it.
use Rattle.std.proofs.Common.{◌≡◌, ◌∙◌, ◌<◌, ◌≤◌, ℕ, ◌+◌, Bool, false, List, [], ◌++◌}
use Rattle.std.proofs.Common.{Option, Some, None, Ok, Err, refl, sym, ap, ap₂, subst, append_assoc}
use Rattle.std.proofs.Common.{append-nil, arith}
use Rattle.std.specs.Prelude.{Result, IfSome, IfOk, OnOk, is_some, ◌||◌}
use Rattle.wap_base.specs.declared.fault.RunErr.{RunErr}
use Rattle.wap_base.specs.declared.fault.RunErr.TheVariants.{Store}
use Rattle.wap_url.specs.declared.url.Url.{Url}
use Rattle.wap_base.specs.declared.key.Key.{Key}
use Rattle.wap_execution.specs.declared.dialog.Dialog.{Dialog}
use Rattle.wap_cardrules.specs.declared.task.Task.{Task}
use Rattle.wap_world.specs.site.Asking.{Seen, Stays, Asks, Fails}
use Rattle.wap_world.specs.site.Misses.{Asked as Question}
use Rattle.wap_world.proofs.SiteLemmas.Asking.{Asks-nil, Asks-then, Stays-same, Stays-then}
use Rattle.wap_world.specs.World.{World, Place}
use Rattle.wap_world.specs.Steps.{Step, Once, Next, still, quiet, then_step}
use Rattle.wap_world.specs.Tasks.{go_on, onward, act, task_by, task_once}
use Rattle.wap_world.proofs.Joining.{before, joined_assoc, joined_nothing}
use Rattle.wap_world.proofs.SessionLawsLemmas.Following.{act_goes_on}
use Rattle.wap_world.specs.scripting.UnitSites.{Pages, shelf_of, unit_pages, units_site}
use Rattle.wap_world.specs.scripting.Waiting.{Waits, left_over, resumed_step}
use Rattle.wap_world.specs.scripting.Halves.{once_by}
use Rattle.wap_world.specs.scripting.Feeding.{meaning}
use Rattle.wap_world.proofs.ScriptingLawsLemmas.Feeding.{waits_means}
use Rattle.wap_world.proofs.ScriptingLawsLemmas.Keeping.{units_fall}
use Rattle.wap_state.specs.Scenes.{Line}
use Rattle.wap_context.specs.declared.waiting.Went.{Went}
use Rattle.wap_context.specs.declared.waiting.Went.TheVariants.{Settled, Leads, Asks as AsksUser}
use Rattle.wap_context.specs.declared.waiting.Step.{Step as Did}
use Rattle.wap_context.specs.declared.waiting.Step.TheVariants.{Settled as Done, Asks as Waiting}
use Rattle.wap_context.specs.Browsers.{Browser, IsOver, place_held}
use Rattle.wap_context.specs.Pausing.{Paused, waits_of}
use Rattle.wap_context.specs.Sites.{fragment_call, site_of, IfOver}
use Rattle.wap_context.specs.Acting.{lines_in, waiting_in, fed_of, Follows, Acts}
use Rattle.wap_context.specs.inside.Moving.{next_in, waits_in, Goes, Takes, Spends, pursued}
use Rattle.wap_context.specs.inside.Moving.{Ends, Pursues}
use Rattle.wap_world.proofs.SiteLemmas.Failing.{Asks-fails, Fails-more}
use Rattle.wap_context.proofs.Plays.{on_ok}
use Rattle.wap_context.proofs.Places.{held_now}
use Rattle.wap_context.proofs.Takings.{Rule, over_map, both_told}

-- a rule for a whole call
abbrev pub StepRule : Type 0
StepRule = Pages → List Key → World → Step

-- ---- one navigation, and what it leads on to

module _ (pages : Pages) where
  -- a task and all that it leads to: its navigation, and what that leads to
  act_is : (keys : List Key) (world : World) (next : Next)
      → act (site_of pages) keys world next
      ≡ onward (act (site_of pages)) (task_once (site_of pages) keys world next)
  act_is keys world next =
      act_goes_on (site_of pages) (units_fall fragment_call pages) keys world next

  -- what is left to do after a navigation, by what it left
  onward_by : (did : Once) (went : Went) → next_in went ≡ did.next → (keys : List Key)
      → onward (act (site_of pages)) (once_by pages did (waits_in went) keys)
      ≡ then_step did.step (pursued went pages keys did.step.world)
  onward_by did Settled leads keys =
      ap (go_on (act (site_of pages)) (before keys did.step)) (sym leads)
      ∙ sym (joined_nothing did.step keys)
  onward_by did (Leads task from) leads keys =
      ap (go_on (act (site_of pages)) (before keys did.step)) (sym leads)
  onward_by did (AsksUser dialog paused) leads keys =
      waits_means fragment_call pages did (waits_of dialog paused) keys

-- what a navigation and what follows ask for begins with what the navigation asks for
asked_by : (f : List Key → World → Next → Step) (step : Step) (next : Option Next)
    → (rest : List Question) × ((go_on f step next).asked ≡ step.asked ++ rest)
asked_by f step None = ([], sym (append-nil step.asked))
asked_by f step (Some next) = (_, refl)

-- the same of what is left of a dialog without keys: nothing
record NothingLeft (pages : Pages) (waiting : Option Waits) (world : World) : Type 0 where
  world_is : (left_over fragment_call pages waiting [] world).world ≡ world
  lines : (left_over fragment_call pages waiting [] world).lines ≡ []
  asked : (left_over fragment_call pages waiting [] world).asked ≡ []
  tests : (left_over fragment_call pages waiting [] world).tests ≡ []
  asks_user : (left_over fragment_call pages waiting [] world).is_open ≡ is_some waiting

nothing_left : (pages : Pages) (waiting : Option Waits) (world : World)
    → NothingLeft pages waiting world
unfolding resumed_step
nothing_left pages None world =
    record { world_is = refl; lines = refl; asked = refl; tests = refl; asks_user = refl }
nothing_left pages (Some one) world =
    record { world_is = refl; lines = refl; asked = refl; tests = refl; asks_user = refl }

-- ---- a loop over navigations

-- so far this was done, and the rest is left to do
pub record Behind (pages : Pages) (rule : List Key → Step) (seen now : Seen) (browser : Browser)
    (before shown : List Line) (went : Went) : Type 0 where
  pub step : Step
  pub world : browser.world ≡ step.world
  pub lines : shown ≡ before ++ step.lines
  pub closed : step.is_open ≡ false
  pub over : IsOver (shelf_of pages) browser
  pub asks : Asks step.asked seen now
  pub on : (keys : List Key) → rule keys ≡ then_step step (pursued went pages keys step.world)

pub record Going (rule : StepRule) (seen now : Seen) (old browser : Browser)
    (before shown : List Line) (went : Went) : Type 0 where
  pub follows : IfOver now old
      (λ pages. Behind pages (λ keys. rule pages keys old.world) seen now browser before shown went)
  pub steady : now.faults ≡ seen.faults
  pub stays : Stays seen now

-- nothing was done yet
pub begins : (first : Went) (seen : Seen) (old : Browser) (before shown : List Line)
    → shown ≡ before → Going (pursued first) seen seen old old before shown first
begins first seen old before shown same = record {
  follows = λ judged may over. record {
    step = quiet [] (still old.world);
    world = refl;
    lines = same ∙ sym (append-nil before);
    closed = refl;
    over = over;
    asks = Asks-nil seen;
    on = λ keys. refl;
  };
  steady = refl;
  stays = Stays-same seen;
}

-- a rule whose navigation left this: all that it leads to is what was done, and what is left to do
goes_behind : (pages : Pages) (rule : List Key → Once) (seen now : Seen) (new : Browser)
    (before shown : List Line) (went : Went)
    → Goes pages rule seen now new before shown went
    → Behind pages (λ keys. onward (act (site_of pages)) (rule keys)) seen now new before shown went
goes_behind pages rule seen now new before shown went goes = record {
  step = goes.did.step;
  world = goes.world;
  lines = goes.lines;
  closed = goes.closed;
  over = goes.over;
  asks = goes.asks;
  on = λ keys. ap (onward (act (site_of pages))) (goes.on keys)
      ∙ onward_by pages goes.did went goes.leads keys;
}

-- what was done so far, and then more
behind_then : (pages : Pages) (rule : List Key → Step) (seen now after : Seen) (b new : Browser)
    (before shown more : List Line) (went next : Went)
    → Behind pages rule seen now b before shown went
    → Behind pages (λ keys. pursued went pages keys b.world) now after new shown more next
    → Behind pages rule seen after new before more next
behind_then pages rule seen now after b new before shown more went next first second = record {
  step = then_step first.step second.step;
  world = second.world;
  lines = second.lines ∙ ap (λ (l : List Line). l ++ second.step.lines) first.lines
      ∙ append_assoc before first.step.lines second.step.lines;
  closed = ap₂ (λ (one two : Bool). one || two) first.closed second.closed;
  over = second.over;
  asks = Asks-then first.step.asked second.step.asked seen now after first.asks second.asks;
  on = λ keys. first.on keys
      ∙ ap (λ (w : World). then_step first.step (pursued went pages keys w)) (sym first.world)
      ∙ ap (then_step first.step) (second.on keys)
      ∙ sym (joined_assoc first.step second.step
      (pursued next pages keys second.step.world));
}

-- a task is taken alone, where a browser is
abbrev pub Tasks : Task → Option Url → Browser → Rule
Tasks one from b pages keys world =
    task_by (site_of pages) (place_held b) keys world from one

-- over pages that have its deck, all that the task leads to begins so
task_is : (pages : Pages) (b : Browser) → IsOver (shelf_of pages) b → (task : Task)
    (from : Option Url) (keys : List Key)
    → act (site_of pages) keys b.world (record { task = task; from = from })
    ≡ onward (act (site_of pages)) (Tasks task from b pages keys b.world)
unfolding units_site
task_is pages b over task from keys =
    act_is pages keys b.world (record { task = task; from = from })
    ∙ ap (λ (p : Option Place). onward (act (site_of pages))
    (task_by (site_of pages) p keys b.world from task)) (held_now (shelf_of pages) b over)

task_behind : (pages : Pages) (seen now : Seen) (old new : Browser) (before shown : List Line)
    (task : Task) (from : Option Url) (went : Went) → IsOver (shelf_of pages) old
    → Goes pages (λ keys. Tasks task from old pages keys old.world) seen now new before shown went
    → Behind pages (λ keys. pursued (Leads task from) pages keys old.world) seen now new before
    shown
    went
task_behind pages seen now old new before shown task from went over goes =
    let one = goes_behind pages (λ keys. Tasks task from old pages keys old.world) seen now new
    before shown went goes in
    record {
      step = one.step;
      world = one.world;
      lines = one.lines;
      closed = one.closed;
      over = one.over;
      asks = one.asks;
      on = λ keys. task_is pages old over task from keys ∙ one.on keys;
    }

pub goes_on : (rule : StepRule) (seen now after : Seen) (old b new : Browser)
    (before shown more : List Line) (went : Went) (task : Task) (from : Option Url) (next : Went)
    → went ≡ Leads task from → Going rule seen now old b before shown went
    → Takes (Tasks task from b) now after b new shown more (Ok next)
    → Going rule seen after old new before more next
goes_on rule seen now after old b new before shown more went task from next is so_far takes =
    let done = subst (Going rule seen now old b before shown) is so_far in
    record {
      follows = both_told now after old b
          {P = λ pages. Behind pages (λ keys. rule pages keys old.world) seen now b before shown
          (Leads task from)}
          {Q = λ pages. Goes pages (λ keys. Tasks task from b pages keys b.world) now after new
          shown more next}
          takes.stays (λ pages behind. behind.over)
          (λ pages behind goes.
          behind_then pages (λ keys. rule pages keys old.world) seen now after b new before shown
          more (Leads task from) next behind
          (task_behind pages now after b new shown more task from next behind.over goes))
          done.follows takes.follows;
      steady = takes.steady ∙ done.steady;
      stays = Stays-then seen now after done.stays takes.stays;
    }

-- nothing is left to do but by further keys
pub ends : (rule : StepRule) (seen now : Seen) (old b : Browser) (before shown : List Line)
    (went : Went) (did : Did) → lines_in did ≡ shown
    → ((pages : Pages) (keys : List Key) (world : World) → pursued went pages keys world
    ≡ left_over fragment_call pages (waiting_in did) keys world)
    → Going rule seen now old b before shown went
    → Pursues rule seen now old b before (Ok did)
ends rule seen now old b before shown went did shows left so_far = record {
  follows = λ judged may over.
      let behind = so_far.follows judged may over in record {
        step = behind.step;
        world = behind.world;
        lines = shows ∙ behind.lines;
        closed = behind.closed;
        over = behind.over;
        asks = behind.asks;
        on = λ keys. behind.on keys
            ∙ ap (then_step behind.step) (left (unit_pages judged) keys behind.step.world);
      };
  steady = so_far.steady;
  missed = λ failed. absurd (cc);
  rose = λ failed. absurd (cc);
  stays = so_far.stays;
}

pub ends_settled : (rule : StepRule) (seen now : Seen) (old b : Browser) (before shown : List Line)
    (went : Went) → went ≡ Settled → Going rule seen now old b before shown went
    → Pursues rule seen now old b before (Ok (Done shown))
ends_settled rule seen now old b before shown went is so_far =
    ends rule seen now old b before shown Settled (Done shown) refl (λ pages keys world. refl)
    (subst (Going rule seen now old b before shown) is so_far)

pub ends_asking : (rule : StepRule) (seen now : Seen) (old b : Browser) (before shown : List Line)
    (went : Went) (dialog : Dialog) (paused : Paused) → went ≡ AsksUser dialog paused
    → Going rule seen now old b before shown went
    → Pursues rule seen now old b before (Ok (Waiting shown dialog paused))
ends_asking rule seen now old b before shown went dialog paused is so_far =
    ends rule seen now old b before shown (AsksUser dialog paused) (Waiting shown dialog paused)
    refl
    (λ pages keys world. refl) (subst (Going rule seen now old b before shown) is so_far)

went_err : (err : RunErr) → ◌≡◌ {A = Result Did RunErr} (Err err) (Err Store)
    → ◌≡◌ {A = Result Went RunErr} (Err err) (Err Store)
went_err err is = cc

-- a task that fails is the next part of what is asked for
fails_behind : (pages : Pages) (rule : List Key → Step) (seen now after : Seen) (b : Browser)
    (before shown : List Line) (task : Task) (from : Option Url) → Stays now after
    → Behind pages rule seen now b before shown (Leads task from)
    → Fails (Tasks task from b pages [] b.world).step.asked now after
    → Fails (rule []).asked seen after
fails_behind pages rule seen now after b before shown task from stays behind missed =
    let next : Next = record { task = task; from = from } in
    let once = Tasks task from b pages [] b.world in
    let rest = asked_by (act (site_of pages)) once.step once.next in
    let whole : (rule []).asked ≡ behind.step.asked ++ (once.step.asked ++ rest.0) =
    ap (λ (s : Step). s.asked) (behind.on [])
    ∙ ap (λ (w : World). behind.step.asked ++ (act (site_of pages) [] w next).asked)
    (sym behind.world)
    ∙ ap (λ (s : Step). behind.step.asked ++ s.asked) (task_is pages b behind.over task from [])
    ∙ ap (λ (a : List Question). behind.step.asked ++ a) rest.1 in
    subst (λ (a : List Question). Fails a seen after) (sym whole)
    (Asks-fails behind.step.asked (once.step.asked ++ rest.0) seen now after behind.asks
    (Fails-more once.step.asked rest.0 now after missed))

pub fails : (rule : StepRule) (seen now after : Seen) (old b new : Browser)
    (before shown more : List Line) (went : Went) (task : Task) (from : Option Url) (err : RunErr)
    → went ≡ Leads task from → Going rule seen now old b before shown went
    → Takes (Tasks task from b) now after b new shown more (Err err)
    → Pursues rule seen after old new before (Err err)
fails rule seen now after old b new before shown more went task from err is so_far takes =
    let done = subst (Going rule seen now old b before shown) is so_far in
    record {
      follows = tt;
      steady = tt;
      missed = λ failed. both_told now after old b
          {P = λ pages. Behind pages (λ keys. rule pages keys old.world) seen now b before shown
          (Leads task from)}
          {Q = λ pages. Fails (Tasks task from b pages [] b.world).step.asked now after}
          takes.stays (λ pages behind. behind.over)
          (λ pages behind missed.
          fails_behind pages (λ keys. rule pages keys old.world) seen now after b before shown task
          from takes.stays behind missed)
          done.follows (takes.missed (went_err err failed));
      rose = λ failed. subst (λ (k : ℕ). k < after.faults) done.steady
          (takes.rose (went_err err failed));
      stays = Stays-then seen now after done.stays takes.stays;
    }

pub fails_by : (rule : StepRule) (seen now after : Seen) (old b new : Browser)
    (before shown more : List Line) (went : Went) (task : Task) (from : Option Url) (err : RunErr)
    (result : Result Did RunErr) → result ≡ Err err
    → went ≡ Leads task from → Going rule seen now old b before shown went
    → Takes (Tasks task from b) now after b new shown more (Err err)
    → Pursues rule seen after old new before result
fails_by rule seen now after old b new before shown more went task from err result same is so_far
    takes =
    subst (λ (r : Result Did RunErr). Pursues rule seen after old new before r) (sym same)
    (fails rule seen now after old b new before shown more went task from err is so_far takes)

-- ---- turns

-- a task that leads on takes a turn
abbrev pub turns_left : Browser → Option Next → ℕ
turns_left b None = 0
turns_left b (Some next) = b.world.turns + 1

falls_by : (old new : Browser) (next : Option Next)
    → IfSome next (λ one. new.world.turns + 1 ≤ old.world.turns)
    → turns_left new next < old.world.turns + 1
falls_by old new None spends = omega arith
falls_by old new (Some next) spends = omega (arith, spends)

pub falls : (old new : Browser) (went : Went) (task : Task) (from : Option Url) (next : Went)
    → went ≡ Leads task from → Spends old new next
    → turns_left new (next_in next) < turns_left old (next_in went)
falls old new went task from next is spends =
    subst (λ (w : Went). turns_left new (next_in next) < turns_left old (next_in w)) (sym is)
    (falls_by old new (next_in next) spends)

-- ---- a navigation, and all that it leads to

-- the rule of both
abbrev pub Onward : Rule → StepRule
Onward rule pages keys world = onward (act (site_of pages)) (rule pages keys world)

-- what is known after a navigation
ends_after : (pages : Pages) (rule : List Key → Step) (seen now after : Seen) (mid new : Browser)
    (before shown : List Line) (went : Went) (did : Did)
    → Behind pages rule seen now mid before shown went
    → Ends pages (λ keys. pursued went pages keys mid.world) now after new shown did
    → Ends pages rule seen after new before did
ends_after pages rule seen now after mid new before shown went did first second = record {
  step = then_step first.step second.step;
  world = second.world;
  lines = second.lines ∙ ap (λ (l : List Line). l ++ second.step.lines) first.lines
      ∙ append_assoc before first.step.lines second.step.lines;
  closed = ap₂ (λ (one two : Bool). one || two) first.closed second.closed;
  over = second.over;
  asks = Asks-then first.step.asked second.step.asked seen now after first.asks second.asks;
  on = λ keys. first.on keys
      ∙ ap (λ (w : World). then_step first.step (pursued went pages keys w)) (sym first.world)
      ∙ ap (then_step first.step) (second.on keys)
      ∙ sym (joined_assoc first.step second.step
      (left_over fragment_call pages (waiting_in did) keys second.step.world));
}

then_ok : (rule : StepRule) (seen now after : Seen) (old mid new : Browser)
    (before shown : List Line) (went : Went) (result : Result Did RunErr)
    → Going rule seen now old mid before shown went → Stays now after
    → IfOk result (λ did. IfOver after mid
    (λ pages. Ends pages (λ keys. pursued went pages keys mid.world) now after new shown did))
    → IfOk result (λ did. IfOver after old
    (λ pages. Ends pages (λ keys. rule pages keys old.world) seen after new before did))
then_ok rule seen now after old mid new before shown went (Ok did) first stays second =
    both_told now after old mid
    {P = λ pages. Behind pages (λ keys. rule pages keys old.world) seen now mid before shown went}
    {Q = λ pages. Ends pages (λ keys. pursued went pages keys mid.world) now after new shown did}
    stays (λ pages behind. behind.over)
    (λ pages behind ended. ends_after pages (λ keys. rule pages keys old.world) seen now after mid
    new
    before shown went did behind ended)
    first.follows second
then_ok rule seen now after old mid new before shown went (Err err) first stays second = tt

missed_after : (pages : Pages) (rule : List Key → Step) (seen now after : Seen) (mid : Browser)
    (before shown : List Line) (went : Went) → Stays now after
    → Behind pages rule seen now mid before shown went
    → Fails (pursued went pages [] mid.world).asked now after → Fails (rule []).asked seen after
missed_after pages rule seen now after mid before shown went stays first missed =
    let whole : (rule []).asked ≡ first.step.asked ++ (pursued went pages [] mid.world).asked =
    ap (λ (s : Step). s.asked) (first.on [])
    ∙ ap (λ (w : World). first.step.asked ++ (pursued went pages [] w).asked) (sym first.world) in
    subst (λ (a : List Question). Fails a seen after) (sym whole)
    (Asks-fails first.step.asked (pursued went pages [] mid.world).asked seen now after
    first.asks missed)

-- what is left to do is done
pub pursues_after : (rule : StepRule) (seen now after : Seen) (old mid new : Browser)
    (before shown : List Line) (went : Went) (result : Result Did RunErr)
    → Going rule seen now old mid before shown went
    → Pursues (pursued went) now after mid new shown result
    → Pursues rule seen after old new before result
pursues_after rule seen now after old mid new before shown went result first second = record {
  follows = then_ok rule seen now after old mid new before shown went result first second.stays
      second.follows;
  steady = on_ok result (λ (same : after.faults ≡ now.faults). same ∙ first.steady)
      second.steady;
  missed = λ failed. both_told now after old mid
      {P = λ pages. Behind pages (λ keys. rule pages keys old.world) seen now mid before shown went}
      {Q = λ pages. Fails (pursued went pages [] mid.world).asked now after}
      second.stays (λ pages behind. behind.over)
      (λ pages behind missed. missed_after pages (λ keys. rule pages keys old.world) seen now after
      mid before shown went second.stays behind missed)
      first.follows (second.missed failed);
  rose = λ failed. subst (λ (k : ℕ). k < after.faults) first.steady (second.rose failed);
  stays = Stays-then seen now after first.stays second.stays;
}

-- a navigation was done
pub taken : (rule : Rule) (seen now : Seen) (old mid : Browser) (before shown : List Line)
    (went : Went) → Takes rule seen now old mid before shown (Ok went)
    → Going (Onward rule) seen now old mid before shown went
taken rule seen now old mid before shown went takes = record {
  follows = over_map now old old (λ pages over. over)
      (λ pages over goes. goes_behind pages (λ keys. rule pages keys old.world) seen now mid before
      shown went goes) takes.follows;
  steady = takes.steady;
  stays = takes.stays;
}

-- it failed
pub taken_err : (rule : Rule) (seen now : Seen) (old mid : Browser) (before shown : List Line)
    (err : RunErr) → Takes rule seen now old mid before shown (Err err)
    → Pursues (Onward rule) seen now old mid before (Err err)
taken_err rule seen now old mid before shown err takes = record {
  follows = tt;
  steady = tt;
  missed = λ failed. over_map now old old (λ pages over. over)
      (λ pages over missed.
      let once = rule pages [] old.world in
      let rest = asked_by (act (site_of pages)) once.step once.next in
      subst (λ (a : List Question). Fails a seen now) (sym rest.1)
      (Fails-more once.step.asked rest.0 seen now missed)) (takes.missed (went_err err failed));
  rose = λ failed. takes.rose (went_err err failed);
  stays = takes.stays;
}

-- ---- a call's answer

module _ (pages : Pages) (rule : List Key → World → Step) (seen after : Seen) (old new : Browser)
    (did : Did) (so : Ends pages (λ keys. rule keys old.world) seen after new [] did) where
  abbrev one : Step
  one = rule [] old.world

  abbrev left : NothingLeft pages (waiting_in did) so.step.world
  left = nothing_left pages (waiting_in did) so.step.world

  asked_is : one.asked ≡ so.step.asked
  asked_is = ap (λ (s : Step). s.asked) (so.on [])
      ∙ ap (λ (a : List Question). so.step.asked ++ a) left.asked ∙ append-nil so.step.asked

  lines_are : one.lines ≡ so.step.lines
  lines_are = ap (λ (s : Step). s.lines) (so.on [])
      ∙ ap (λ (l : List Line). so.step.lines ++ l) left.lines ∙ append-nil so.step.lines

  tests_are : one.tests ≡ so.step.tests
  tests_are = ap (λ (s : Step). s.tests) (so.on [])
      ∙ ap (λ t. so.step.tests ++ t) left.tests ∙ append-nil so.step.tests

  world_is : one.world ≡ so.step.world
  world_is = ap (λ (s : Step). s.world) (so.on []) ∙ left.world_is

  open_is : one.is_open ≡ is_some (waiting_in did)
  open_is = ap (λ (s : Step). s.is_open) (so.on [])
      ∙ ap (λ (b : Bool). b || (left_over fragment_call pages (waiting_in did) []
      so.step.world).is_open) so.closed
      ∙ left.asks_user

  -- the step without keys is what was done
  fed_is : (keys : List Key)
      → meaning fragment_call pages (record { step = so.step; waiting = waiting_in did }) keys
      ≡ meaning fragment_call pages (fed_of one did) keys
  fed_is keys = λ i.
      let w = sym world_is i in
      let rest = left_over fragment_call pages (waiting_in did) keys w in record {
        world = rest.world;
        keys = rest.keys;
        lines = sym lines_are i ++ rest.lines;
        asked = sym asked_is i ++ rest.asked;
        tests = sym tests_are i ++ rest.tests;
        is_open = so.closed i || rest.is_open;
      }

  follows_so : Follows pages rule old new did
  follows_so = record {
    leads = so.world ∙ sym world_is;
    tells = so.lines ∙ sym lines_are;
    over = so.over;
    asks_user = open_is;
    on = λ keys. so.on keys ∙ fed_is keys;
  }

  asks_so : Asks one.asked seen after
  asks_so = subst (λ (a : List Question). Asks a seen after) (sym asked_is) so.asks

acts_follow : (rule : StepRule) (seen after : Seen) (old new : Browser)
    (result : Result Did RunErr)
    → IfOk result (λ did. IfOver after old
    (λ pages. Ends pages (λ keys. rule pages keys old.world) seen after new [] did))
    → IfOk result (λ did. IfOver after old
    (λ pages. Follows pages (rule pages) old new did))
acts_follow rule seen after old new (Ok did) so =
    over_map after old old (λ pages over. over)
    (λ pages over ended. follows_so pages (rule pages) seen after old new did ended) so
acts_follow rule seen after old new (Err err) so = tt

acts_ask : (rule : StepRule) (seen after : Seen) (old new : Browser) (result : Result Did RunErr)
    → IfOk result (λ did. IfOver after old
    (λ pages. Ends pages (λ keys. rule pages keys old.world) seen after new [] did))
    → OnOk result (IfOver after old (λ pages. Asks (rule pages [] old.world).asked seen after))
acts_ask rule seen after old new (Ok did) so =
    over_map after old old (λ pages over. over)
    (λ pages over ended. asks_so pages (rule pages) seen after old new did ended) so
acts_ask rule seen after old new (Err err) so = tt

pub acts : (rule : StepRule) (seen after : Seen) (old new : Browser) (before : List Line)
    (result : Result Did RunErr) → before ≡ []
    → Pursues rule seen after old new before result → Acts rule seen after old new result
acts rule seen after old new before result none pursues =
    let so = subst (λ (l : List Line). Pursues rule seen after old new l result) none pursues in
    record {
      follows = acts_follow rule seen after old new result so.follows;
      asks = acts_ask rule seen after old new result so.follows;
      steady = so.steady;
      failed = so.rose;
      missed = so.missed;
      stays = so.stays;
    }
