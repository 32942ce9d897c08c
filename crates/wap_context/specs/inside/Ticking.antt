-- The passing of time over the place that a browser has at hand. Contracts inside the crate cite
-- it; those of its public calls don't. This project's own.
use Rattle.std.specs.Prelude.{ℕ, List, Option, Some, None, is_some, if◌then◌else◌}
use Rattle.wap_base.specs.declared.key.Key.{Key}
use Rattle.wap_cardrules.specs.declared.event.Event.TheVariants as event
use Rattle.wap_world.specs.declared.timer.Timer.{Timer}
use Rattle.wap_world.specs.declared.timer.Timer.TheVariants.{Running}
use Rattle.wap_world.specs.World.{World, Place}
use Rattle.wap_world.specs.Steps.{Scene, Step, still, quiet, followed}
use Rattle.wap_world.specs.Timers.{end_timer}
use Rattle.wap_world.specs.Screens.{at_place}
use Rattle.wap_world.specs.Entering.{event_task}
use Rattle.wap_world.specs.Keys.{act_or}
use Rattle.wap_world.specs.scripting.UnitSites.{Pages}
use Rattle.wap_context.specs.Sites.{site_of}

-- what remains of a timer that runs, and of that of a card
abbrev pub left_of : Timer → Option ℕ
left_of (Running time) = Some time
left_of other = None

abbrev pub left_at : Option Place → Timer → Option ℕ
left_at place timer = if is_some place then left_of timer else None

-- the timer has run out
abbrev pub end_place : Place → World → Scene
end_place place world = end_timer place.card world

abbrev pub run_out : Option Place → Pages → List Key → World → Step
run_out place pages keys world = followed (quiet keys (at_place end_place place world))
    (λ left w. act_or (still w) (site_of pages) left w (event_task place event.Timer w))
