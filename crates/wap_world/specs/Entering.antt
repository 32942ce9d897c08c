-- Entering and leaving a card (WAP-191, sections 9.5, 9.10 and 11.7).
use Rattle.std.specs.Prelude.{List, Option, Some, None}
use Rattle.std.specs.Option.{option_and_then}
use Rattle.wap_base.specs.declared.key.Key.{Key}
use Rattle.wap_cardrules.specs.declared.event.Event.{Event}
use Rattle.wap_cardrules.specs.declared.task.Task.{Task}
use Rattle.wap_cardrules.specs.Events.{binding}
use Rattle.wap_world.specs.declared.timer.Timer.TheVariants.{NotStarted}
use Rattle.wap_world.specs.World.{World, Place}
use Rattle.wap_world.specs.Steps.{Scene, Once, then_task, still, quiet, settled}
use Rattle.wap_world.specs.Timers.{store_left}
use Rattle.wap_world.specs.Screens.{at_place, show}

-- a timer that runs stores what remains
abbrev pub leave_place : Place → World → Scene
leave_place place world = store_left world.timer place.card world

-- the card, if there is one, is left
abbrev pub leave : Option Place → World → Scene
leave place world = at_place leave_place place world

-- the task of an event of the card
abbrev pub event_task : Option Place → Event → World → Option Task
event_task place event world =
    option_and_then (λ one. binding world.vars one.deck one.card event) place

-- a task that is next, or the card is shown
abbrev pub or_show : Option Place → List Key → Option Task → World → Once
or_show place keys None world = settled (quiet keys (show place world))
or_show place keys (Some task) world =
    record { step = quiet keys (still world); next = Some (then_task task) }

-- the task of an event is next; without one the card is shown
abbrev pub begin_event : Option Place → List Key → Event → World → Once
begin_event place keys event world = or_show place keys (event_task place event world) world

-- a card is entered: its timer is not started, and the event begins
abbrev pub enter : Option Place → List Key → Event → World → Once
enter place keys event world = begin_event place keys event (record world { timer = NotStarted })
