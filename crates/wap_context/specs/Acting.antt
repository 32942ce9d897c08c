-- What a call of a context comes to: a step of its world, of which further keys may be a part where
-- a script asks its user. This project's own.
use Rattle.std.specs.Prelude.{◌≡◌, ℕ, true, false, List, [], Option, Some, None, is_some, ◌<◌}
use Rattle.std.specs.Prelude.{IfOk, OnOk, Result, Err}
use Rattle.wap_base.specs.declared.fault.RunErr.{RunErr}
use Rattle.wap_base.specs.declared.fault.RunErr.TheVariants.{Store}
use Rattle.wap_value.specs.declared.value.Value.{Value}
use Rattle.wap_base.specs.declared.key.Key.{Key}
use Rattle.wap_execution.specs.declared.fatal.Fatal.TheVariants.{Stopped}
use Rattle.wap_execution.specs.Running.{resumed}
use Rattle.wap_execution.specs.laws.Settings.{uncounted}
use Rattle.wap_world.specs.site.Asking.{Seen, Stays, Asks, Fails}
use Rattle.wap_world.specs.World.{World, Place}
use Rattle.wap_world.specs.Steps.{Step, still, quiet}
use Rattle.wap_world.specs.Sites.{failed as failed_by, Ran}
use Rattle.wap_world.specs.Starting.{ended_script}
use Rattle.wap_world.specs.Tasks.{onward, act}
use Rattle.wap_world.specs.Keys.{at_card, pass_time}
use Rattle.wap_world.specs.session_laws.Ignored.{is_running}
use Rattle.wap_world.specs.scripting.Dialogs.{tick_waiting}
use Rattle.wap_world.specs.scripting.UnitSites.{Pages, shelf_of, keyed_host, ran_of}
use Rattle.wap_world.specs.scripting.Waiting.{Waits, inside}
use Rattle.wap_world.specs.scripting.Feeding.{Fed, Means}
use Rattle.wap_context.specs.declared.waiting.Step.{Step as Did}
use Rattle.wap_context.specs.declared.waiting.Step.TheVariants.{Settled, Asks as AsksUser}
use Rattle.wap_context.specs.declared.waiting.Ticked.{Ticked}
use Rattle.wap_context.specs.declared.waiting.Ticked.TheVariants.{NotRunning, Counted}
use Rattle.wap_context.specs.Browsers.{Browser, IsOver, Shows}
use Rattle.wap_context.specs.Pausing.{Paused, waits_of}
use Rattle.wap_context.specs.Sites.{fragment_call, site_of, IfOver}

-- ---- what a call did

-- the lines that it shows
abbrev pub lines_in : Did → List (List ℕ)
lines_in (Settled lines) = lines
lines_in (AsksUser lines dialog paused) = lines

-- the dialog that waits, with the script that asks
abbrev pub waiting_in : Did → Option Waits
waiting_in (Settled lines) = None
waiting_in (AsksUser lines dialog paused) = Some (waits_of dialog paused)

-- a step without further keys, and what waits for these
abbrev pub fed_of : Step → Did → Fed
fed_of step did =
    record { step = record step { is_open = false }; waiting = waiting_in did }

-- a rule for keys that would come after a call: what the call did without them
pub record Follows (pages : Pages) (rule : List Key → World → Step) (old new : Browser)
    (did : Did) : Type 0 where
  -- its lines and the new world are those of the step without keys
  pub leads : new.world ≡ (rule [] old.world).world
  pub tells : lines_in did ≡ (rule [] old.world).lines
  pub over : IsOver (shelf_of pages) new
  -- it asks exactly where that step ends in a dialog
  pub asks_user : (rule [] old.world).is_open ≡ is_some (waiting_in did)
  -- with any keys the step is what was done, and what is left to these
  pub on : Means fragment_call pages (fed_of (rule [] old.world) did) (λ keys. rule keys old.world)

-- a call that follows a rule over the site of the pages: these before and after, the browser before
-- and after, and the answer
pub record Acts (rule : Pages → List Key → World → Step) (before after : Seen)
    (old new : Browser) (result : Result Did RunErr) : Type 0 where
  pub follows : IfOk result
      (λ did. IfOver after old (λ pages. Follows pages (rule pages) old new did))
  -- the step's pages were asked for, in order
  pub asks : OnOk result
      (IfOver after old (λ pages. Asks (rule pages [] old.world).asked before after))
  pub steady : OnOk result (after.faults ≡ before.faults)
  -- the store failed at one of them
  pub failed : result ≡ Err Store → before.faults < after.faults
  pub missed : result ≡ Err Store
      → IfOver after old (λ pages. Fails (rule pages [] old.world).asked before after)
  -- however it ends
  pub stays : Stays before after

-- ---- rules

-- time that passes on a card
abbrev pub tick : ℕ → Option Place → Pages → List Key → World → Step
tick n place pages keys world =
    at_card keys world (λ one. pass_time (site_of pages) keys n world.timer one world) place

-- the script that waits goes on so far, and then all that it leads to
abbrev pub gone_on : Paused → (Pages → List Key → World → Ran) → Pages → List Key → World → Step
gone_on paused ran pages keys world = onward (act (site_of pages))
    (ended_script (shelf_of pages) paused.base (ran pages keys world))

-- it goes on with an answer
abbrev pub answer : Paused → Value → Pages → List Key → World → Step
answer paused v = gone_on paused
    (λ pages keys world. ran_of (resumed (uncounted paused.limits (keyed_host pages)) paused.frames
    v
    world.turns (quiet keys (still (inside world)))))

-- it is stopped
abbrev pub stop : Paused → Pages → List Key → World → Step
stop paused = gone_on paused (λ pages keys world. record {
  end = failed_by Stopped;
  turns = world.turns;
  step = quiet keys (still (inside world));
})

-- ---- time in a dialog

-- time that passes in a dialog is counted exactly where the timer runs
abbrev pub Ticks : ℕ → Browser → Browser → Ticked → Type 0
Ticks n old new NotRunning = (is_running old.world.timer ≡ false) × (new ≡ old)
Ticks n old new (Counted lines) = (is_running old.world.timer ≡ true)
    × Shows (λ place world. tick_waiting place n world.timer world) old new [] lines
