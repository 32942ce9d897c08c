-- What a run of a script comes to before any key is read: its end, or a dialog; and what it comes
-- to with keys. This project's own.
use Rattle.std.specs.Prelude.{◌≡◌, ℕ, List, [], Option, Some, None}
use Rattle.wap_base.specs.declared.limits.Limits.{Limits}
use Rattle.wap_base.specs.declared.key.Key.{Key}
use Rattle.wap_url.specs.declared.url.Url.{Url}
use Rattle.wap_value.specs.declared.value.Value.{Value}
use Rattle.wap_execution.specs.Frames.{Frame}
use Rattle.wap_execution.specs.Outcomes.{Outcome, waits, Ended}
use Rattle.wap_execution.specs.Running.{resumed, finished}
use Rattle.wap_execution.specs.laws.Settings.{uncounted}
use Rattle.wap_world.specs.Shelves.{Shelf}
use Rattle.wap_world.specs.World.{World, Place, place_now}
use Rattle.wap_world.specs.Steps.{Scene, Step, Once, still, quiet, settled, after_step}
use Rattle.wap_world.specs.Starting.{in_world, end_by, ended_script}
use Rattle.wap_world.specs.scripting.UnitSites.{Pages, shelf_of, host_of, keyed_host, end_of}
use Rattle.wap_world.specs.scripting.UnitSites.{ran_of}
use Rattle.wap_world.specs.scripting.Waiting.{Waits, resumed_once}

-- a navigation before any key is read: all of it, or what was done until a dialog, which waits
pub record Half : Type 0 where
  pub once : Once
  pub waiting : Option Waits

-- what a run came to, at this place, within these limits and from this URL
abbrev pub half_by : Limits → Option Place → Url → Outcome → Step → Half
half_by limits place base (waits dialog frames) step = record {
  once = settled step;
  waiting = Some (record {
    dialog = dialog;
    limits = limits;
    frames = frames;
    base = base;
  });
}
half_by limits place base other step =
    record { once = end_by place base (end_of other) step; waiting = None }

-- the same of the end of a run, at the place where it leaves the world
abbrev pub half_of : Limits → Shelf → Url → Ended Step → Half
half_of limits shelf base end =
    let world = record end.state.world { turns = end.turns } in
    half_by limits (place_now shelf world) base end.outcome (in_world world end.state)

-- with keys: what was done stays, and a dialog that waits is answered by them
abbrev pub once_by : Pages → Once → Option Waits → List Key → Once
once_by pages once None keys = record once { step = record once.step { keys = keys } }
once_by pages once (Some one) keys =
    after_step once.step (resumed_once pages one keys once.step.world)

-- the same of a half
abbrev pub once_of : Pages → Half → List Key → Once
once_of pages half keys = once_by pages half.once half.waiting keys

-- ---- both are the same

-- a run that starts, or goes on with an answer, comes with any keys to what it comes to without,
-- and then to what these make of the dialog that waits
pub record GoesOnWithKeys (pages : Pages) (base : Url) (limits : Limits) : Type 0 where
  pub starting : (frames : List Frame) (turns : ℕ) (scene : Scene) (keys : List Key)
      → scene.world.turns ≡ 0
      → ended_script (shelf_of pages) base
      (ran_of (finished (uncounted limits (keyed_host pages)) frames turns (quiet keys scene)))
      ≡ once_of pages (half_of limits (shelf_of pages) base
      (finished (uncounted limits (host_of pages)) frames turns (quiet [] scene))) keys
  pub resuming : (frames : List Frame) (v : Value) (turns : ℕ) (world : World) (keys : List Key)
      → world.turns ≡ 0
      → ended_script (shelf_of pages) base
      (ran_of (resumed (uncounted limits (keyed_host pages)) frames v turns
      (quiet keys (still world))))
      ≡ once_of pages (half_of limits (shelf_of pages) base
      (resumed (uncounted limits (host_of pages)) frames v turns (quiet [] (still world)))) keys
