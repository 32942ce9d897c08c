-- A session on its way, key by key. This project's own.
use Rattle.std.specs.Prelude.{◌≡◌, false, List, [], ◌++◌}
use Rattle.wap_devices.specs.Transfer.{Appends}
use Rattle.wap_devices.specs.Sources.{SourceSeen}
use Rattle.wap_devices.specs.Sinks.{SinkSeen}
use Rattle.wap_base.specs.declared.key.Key.{Key}
use Rattle.wap_world.specs.site.Pages.{Pages as JudgedPages}
use Rattle.wap_world.specs.site.Asking.{Seen, MayBe, Stays, Asks}
use Rattle.wap_world.specs.Steps.{Step, then_step}
use Rattle.wap_world.specs.scripting.UnitSites.{Pages, shelf_of, unit_pages}
use Rattle.wap_context.specs.Browsers.{IsOver}
use Rattle.wap_session.specs.Feeding.{State, step_of, left_open}
use Rattle.wap_cli.specs.browse.Outside.{Outside}
use Rattle.wap_cli.specs.browse.Plays.{Play, HaveNoPush}
use Rattle.wap_cli.specs.browse.Handling.{bytes_of}

-- what keys move of the outside
pub record Moved : Type 0 where
  pub pages : Seen
  pub sink : SinkSeen

abbrev pub moved_of : Outside → Moved
moved_of outside = record { pages = outside.pages; sink = outside.sink }

-- the outside with this source
abbrev pub outside_of : Moved → SourceSeen → Outside
outside_of moved source = record { pages = moved.pages; source = source; sink = moved.sink }

-- over these pages: the session and the outside stand where these keys lead
pub record Stands (pages : Pages) (play : List Key → Step) (given : List Key) (old now : Moved)
    (state : State) : Type 0 where
  pub over : IsOver (shelf_of pages) state.browser
  -- further keys go on from there
  pub on : (others : List Key) → play (given ++ others)
      ≡ then_step (left_open (play given)) (step_of pages others state)
  pub asks : Asks (play given).asked old.pages now.pages
  pub wrote : Appends old.sink.taken now.sink.taken (bytes_of (play given))
  -- and where none of these is a push, the inbox is as in the beginning
  pub unpushed : HaveNoPush given → state.winners ≡ []

-- so far nothing failed, and the session stands where these keys lead
pub record Browsed (play : Play) (given : List Key) (old now : Moved) (state : State) : Type 0 where
  pub stands : (judged : JudgedPages) → MayBe now.pages judged
      → Stands (unit_pages judged) (play (unit_pages judged)) given old now state
  pub ready : state.is_over ≡ false
  pub stays : Stays old.pages now.pages
  pub steady : now.pages.faults ≡ old.pages.faults
  pub write_steady : now.sink.faults ≡ old.sink.faults
