-- Time that passes: quiet steps, a timer that runs out, and time in a dialog.
use Rattle.std.proofs.Common.{◌≡◌, ◌∙◌, ◌<◌, ◌≤◌, ◌-◌, ℕ, Bool, List, [], ◌++◌, Option, Some, None}
use Rattle.std.proofs.Common.{Ok, Err, refl, ap₂, sym, ap, subst, cond}
use Rattle.std.specs.Prelude.{Result, IsErr, IsErrAnd}
use Rattle.std.specs.Option.{option_map}
use Rattle.std.proofs.lemmas.Bool.{lt-ltb, le-ltb, false≢true}
use Rattle.wap_base.specs.declared.fault.RunErr.{RunErr}
use Rattle.wap_base.specs.declared.fault.RunErr.TheVariants.{Store, NoMemory}
use Rattle.wap_base.specs.declared.key.Key.{Key}
use Rattle.wap_cardrules.specs.declared.event.Event.TheVariants as event
use Rattle.wap_cardrules.specs.declared.task.Task.{Task}
use Rattle.wap_world.specs.site.Asking.{Seen, Fails}
use Rattle.wap_world.proofs.SiteLemmas.Asking.{Asks-nil, Stays-same}
use Rattle.wap_world.specs.declared.timer.Timer.{Timer}
use Rattle.wap_world.specs.declared.timer.Timer.TheVariants.{Running}
use Rattle.wap_world.specs.Shelves.{Shelf}
use Rattle.wap_world.specs.World.{World, Place}
use Rattle.wap_world.specs.Steps.{Scene, Step, then_task, still, quiet, then_step}
use Rattle.wap_world.specs.Screens.{at_place}
use Rattle.wap_world.specs.Entering.{event_task}
use Rattle.wap_world.specs.Tasks.{act}
use Rattle.wap_world.specs.Keys.{ignored, act_or, expire, pass_time}
use Rattle.wap_world.proofs.Joining.{joined_nothing}
use Rattle.wap_world.specs.scripting.UnitSites.{Pages, shelf_of, unit_pages}
use Rattle.wap_state.specs.Scenes.{Line}
use Rattle.wap_context.specs.declared.waiting.Went.{Went}
use Rattle.wap_context.specs.declared.waiting.Went.TheVariants.{Settled, Leads, Asks as AsksUser}
use Rattle.wap_context.specs.declared.waiting.Step.{Step as Did}
use Rattle.wap_context.specs.declared.waiting.Step.TheVariants.{Settled as Done}
use Rattle.wap_context.specs.Browsers.{Browser, IsOver, place_held, Shows}
use Rattle.wap_context.specs.Sites.{site_of}
use Rattle.wap_context.specs.Acting.{tick}
use Rattle.wap_context.specs.inside.Moving.{next_in, waits_in, pursued, Ends, Pursues}
use Rattle.wap_context.specs.inside.Ticking.{left_of, left_at, end_place, run_out}
use Rattle.wap_context.proofs.Plays.{history_kept, place_kept, over_kept, if_ok}
use Rattle.wap_context.proofs.Takings.{over_map}
use Rattle.wap_context.proofs.Pursuing.{StepRule, Going, ends_settled, pursues_after}

-- ---- by other rules

ends_from : (pages : Pages) (rule other : List Key → Step) (seen after : Seen) (new : Browser)
    (before : List Line) (did : Did) → ((keys : List Key) → other keys ≡ rule keys)
    → Ends pages other seen after new before did → Ends pages rule seen after new before did
ends_from pages rule other seen after new before did is ended = record {
  step = ended.step;
  world = ended.world;
  lines = ended.lines;
  closed = ended.closed;
  over = ended.over;
  asks = ended.asks;
  on = λ keys. sym (is keys) ∙ ended.on keys;
}

pub pursues_from : (rule other : StepRule) (seen after : Seen) (old new : Browser)
    (before : List Line) (result : Result Did RunErr)
    → ((pages : Pages) → IsOver (shelf_of pages) old → (keys : List Key)
    → other pages keys old.world ≡ rule pages keys old.world)
    → Pursues other seen after old new before result
    → Pursues rule seen after old new before result
pursues_from rule other seen after old new before result is so = record {
  follows = if_ok result (λ did. over_map after old old (λ pages over. over)
      (λ pages over ended. ends_from pages (λ keys. rule pages keys old.world)
      (λ keys. other pages keys old.world) seen after new before did (is pages over) ended))
      so.follows;
  steady = so.steady;
  missed = λ failed. over_map after old old (λ pages over. over)
      (λ pages over missed. subst (λ (s : Step). Fails s.asked seen after) (is pages over [])
      missed) (so.missed failed);
  rose = so.rose;
  stays = so.stays;
}

-- out of memory
pub pursues_rejected : {rule : StepRule} {seen : Seen} {old new : Browser} {before : List Line}
    (result : Result Did RunErr) → IsErr result → IsErrAnd result (λ err. err ≡ NoMemory)
    → Pursues rule seen seen old new before result
pursues_rejected (Ok did) is so = absurd (false≢true is)
pursues_rejected {rule} {seen} (Err err) is so = record {
  follows = tt;
  steady = tt;
  missed = λ e. absurd (cc (sym so ∙ same err e));
  rose = λ e. absurd (cc (sym so ∙ same err e));
  stays = Stays-same seen;
} where
  same : (fault : RunErr) → ◌≡◌ {A = Result Did RunErr} (Err fault) (Err Store) → fault ≡ Store
  same fault e = cc e

-- ---- a scene, and then what is left to do

-- a rule whose first part is a scene
pub after_scene : (rule : StepRule) (seen : Seen) (old mid : Browser) (before middle : List Line)
    (scene : Scene) (went : Went) → mid.world ≡ scene.world → middle ≡ before ++ scene.lines
    → ((shelf : Shelf) → IsOver shelf old → IsOver shelf mid)
    → ((pages : Pages) → IsOver (shelf_of pages) old → (keys : List Key)
    → rule pages keys old.world ≡ then_step (quiet [] scene) (pursued went pages keys scene.world))
    → Going rule seen seen old mid before middle went
after_scene rule seen old mid before middle scene went world lines onto is = record {
  follows = λ judged may over. record {
    step = quiet [] scene;
    world = world;
    lines = lines;
    closed = refl;
    over = onto (shelf_of (unit_pages judged)) over;
    asks = Asks-nil seen;
    on = is (unit_pages judged) over;
  };
  steady = refl;
  stays = Stays-same seen;
}

-- a rule that is a scene
pub is_scene : (rule : StepRule) (seen : Seen) (old new : Browser) (before shown : List Line)
    (scene : Scene) → new.world ≡ scene.world → shown ≡ before ++ scene.lines
    → ((shelf : Shelf) → IsOver shelf old → IsOver shelf new)
    → ((pages : Pages) → IsOver (shelf_of pages) old → (keys : List Key)
    → rule pages keys old.world ≡ quiet keys scene)
    → Pursues rule seen seen old new before (Ok (Done shown))
is_scene rule seen old new before shown scene world lines onto is =
    ends_settled rule seen seen old new before shown Settled refl
    (after_scene rule seen old new before shown scene Settled world lines onto
    (λ pages over keys. is pages over keys ∙ sym (joined_nothing (quiet [] scene) keys)))

-- ---- the timer of a card

none_by : (n : ℕ) (pages : Pages) (keys : List Key) (w : World) (timer : Timer) (place : Place)
    → left_of timer ≡ None
    → pass_time (site_of pages) keys n timer place w ≡ quiet keys (ignored w)
none_by n pages keys w (Running time) place is = absurd (cc)
none_by n pages keys w _ place is = refl

-- no timer runs
pub tick_none : (n : ℕ) (pages : Pages) (keys : List Key) (w : World) (place : Option Place)
    → left_at place w.timer ≡ None → tick n place pages keys w ≡ quiet keys (ignored w)
tick_none n pages keys w None is = refl
tick_none n pages keys w (Some place) is = none_by n pages keys w w.timer place is

-- one runs, with so much left
running_by : (timer : Timer) (left : ℕ) → left_of timer ≡ Some left → timer ≡ Running left
running_by (Running time) left is =
    let same : time ≡ left = cc in ap Running same
running_by _ left is = absurd (cc)

record RunsAt (place : Option Place) (timer : Timer) (left : ℕ) : Type 0 where
  at : Place
  place_is : place ≡ Some at
  timer_is : timer ≡ Running left

runs_at : (place : Option Place) (timer : Timer) (left : ℕ) → left_at place timer ≡ Some left
    → RunsAt place timer left
runs_at None timer left is = absurd (cc)
runs_at (Some place) timer left is =
    record { at = place; place_is = refl; timer_is = running_by timer left is }

-- less passes than remains
pub tick_less : (n left : ℕ) (pages : Pages) (keys : List Key) (w : World) (place : Option Place)
    → Some left ≡ left_at place w.timer → n < left
    → tick n place pages keys w ≡ quiet keys (still (record w { timer = Running (left - n) }))
tick_less n left pages keys w place is less =
    let runs = runs_at place w.timer left (sym is) in
    ap (λ (p : Option Place). tick n p pages keys w) runs.place_is
    ∙ ap (λ (t : Timer). pass_time (site_of pages) keys n t runs.at w) runs.timer_is
    ∙ ap (λ (b : Bool). cond b (quiet keys (still (record w { timer = Running (left - n) })))
    (expire (site_of pages) keys runs.at w)) (lt-ltb n left less)

-- all of it passes
pub tick_out : (n left : ℕ) (pages : Pages) (keys : List Key) (w : World) (place : Option Place)
    → Some left ≡ left_at place w.timer → left ≤ n
    → run_out place pages keys w ≡ tick n place pages keys w
tick_out n left pages keys w place is past =
    let runs = runs_at place w.timer left (sym is) in
    sym (ap (λ (p : Option Place). tick n p pages keys w) runs.place_is
    ∙ ap (λ (t : Timer). pass_time (site_of pages) keys n t runs.at w) runs.timer_is
    ∙ ap (λ (b : Bool). cond b (quiet keys (still (record w { timer = Running (left - n) })))
    (expire (site_of pages) keys runs.at w)) (le-ltb n left past)
    ∙ ap (λ (p : Option Place). run_out p pages keys w) (sym runs.place_is))

-- ---- the timer has run out

-- what a task of the current card leaves to do
pursued_is : (went : Went) (task : Option Task) → next_in went ≡ option_map then_task task
    → waits_in went ≡ None → (pages : Pages) (keys : List Key) (w : World)
    → act_or (still w) (site_of pages) keys w task ≡ pursued went pages keys w
pursued_is Settled None leads none pages keys w = refl
pursued_is Settled (Some task) leads none pages keys w = absurd (cc)
pursued_is (Leads task from) None leads none pages keys w = absurd (cc)
pursued_is (Leads task from) (Some other) leads none pages keys w =
    let same : record { task = task; from = from } ≡ then_task other = cc in
    ap (act (site_of pages) keys w) (sym same)
pursued_is (AsksUser dialog paused) task leads none pages keys w = absurd (cc)

module _ (old mid : Browser) (before middle : List Line) (task : Option Task) (went : Went)
    (ended : Shows (at_place end_place) old mid before middle)
    (is : task ≡ event_task (place_held mid) event.Timer mid.world)
    (leads : next_in went ≡ option_map then_task task) (none : waits_in went ≡ None) where
  abbrev scene : Scene
  scene = at_place end_place (place_held old) old.world

  over_ended : (shelf : Shelf) → IsOver shelf old → IsOver shelf mid
  over_ended shelf over = over_kept shelf old mid ended.deck
      (history_kept scene old.world mid.world before middle ended.plays) over

  out_is : (pages : Pages) (keys : List Key)
      → run_out (place_held old) pages keys old.world
      ≡ then_step (quiet [] scene) (pursued went pages keys scene.world)
  out_is pages keys =
      let place : place_held mid ≡ place_held old =
      place_kept old mid ended.deck
      (history_kept scene old.world mid.world before middle ended.plays) in
      ap (λ (t : Option Task). then_step (quiet [] scene)
      (act_or (still scene.world) (site_of pages) keys scene.world t))
      (sym (is ∙ ap₂ (λ (p : Option Place) (w : World). event_task p event.Timer w) place
      ended.plays.world))
      ∙ ap (then_step (quiet [] scene)) (pursued_is went task leads none pages keys scene.world)

  pub runs_out : (seen after : Seen) (new : Browser) (result : Result Did RunErr)
      → Pursues (pursued went) seen after mid new middle result
      → Pursues (run_out (place_held old)) seen after old new before result
  runs_out seen after new result so =
      let rule = run_out (place_held old) in
      pursues_after rule seen seen after old mid new before middle went result
      (after_scene rule seen old mid before middle scene went ended.plays.world ended.plays.lines
      over_ended (λ pages over. out_is pages)) so
