-- A key that is played, and whose lines are written. This project's own.
use Rattle.std.specs.Prelude.{◌≡◌, ◌≤◌, false, [], ◌∷◌, Result, Ok, Err, ◌<◌}
use Rattle.wap_devices.specs.Sinks.{SinkSeen}
use Rattle.wap_devices.specs.Transfer.{Appends, AppendsPrefix}
use Rattle.wap_base.specs.declared.key.Key.{Key}
use Rattle.wap_world.specs.site.Asking.{Seen, Stays, Asks, Fails}
use Rattle.wap_layout.specs.buffer.Written.{lines_bytes}
use Rattle.wap_world.specs.Steps.{Step}
use Rattle.wap_world.specs.Sessions.{shown_by}
use Rattle.wap_world.specs.scripting.UnitSites.{Pages, shelf_of}
use Rattle.wap_context.specs.Browsers.{IsOver}
use Rattle.wap_context.specs.Sites.{IfOver}
use Rattle.wap_session.specs.Feeding.{State, step_of, PlaysOn}
use Rattle.wap_cli.specs.browse.Plays.{IsNoPush}
use Rattle.wap_cli.specs.declared.status.Status.{Status}
use Rattle.wap_cli.specs.declared.status.Status.TheVariants.{StoreFault, WriteFault, NoMemory}

-- what a key is seen to move: pages, the session and the sink
pub record Moment : Type 0 where
  pub pages : Seen
  pub state : State
  pub sink : SinkSeen

-- what a key comes to
abbrev pub step_at : Pages → Key → Moment → Step
step_at pages key old = step_of pages (key ∷ []) old.state

-- a fact of a key, over any pages that there may be afterwards and that have the deck
abbrev pub IfMayBe : Moment → Moment → (Pages → Type 0) → Type 0
IfMayBe old new Fact = IfOver new.pages old.state.browser Fact

-- a key that was played, and its lines written
pub record Leads (pages : Pages) (key : Key) (old new : Moment) : Type 0 where
  pub over : IsOver (shelf_of pages) new.state.browser
  pub on : PlaysOn (key ∷ []) pages old.state new.state
  pub unpushed : IsNoPush key → old.state.winners ≡ [] → new.state.winners ≡ []
  pub asks : Asks (step_at pages key old).asked old.pages new.pages
  pub wrote : Appends old.sink.taken new.sink.taken
      (lines_bytes (shown_by (step_at pages key old)))

-- a key that was played, and a prefix of its lines written
pub record LeadsPart (pages : Pages) (key : Key) (old new : Moment) : Type 0 where
  pub on : PlaysOn (key ∷ []) pages old.state new.state
  pub asks : Asks (step_at pages key old).asked old.pages new.pages
  pub wrote : AppendsPrefix old.sink.taken new.sink.taken
      (lines_bytes (shown_by (step_at pages key old)))

-- ---- what each answer says

-- the key was played, and its lines were written
pub record GoesOn (key : Key) (old new : Moment) : Type 0 where
  pub leads : IfMayBe old new (λ pages. Leads pages key old new)
  pub ready : new.state.is_over ≡ false
  pub stays : Stays old.pages new.pages
  pub steady : new.pages.faults ≡ old.pages.faults
  pub write_steady : new.sink.faults ≡ old.sink.faults

-- the store failed, and nothing was written
pub record FailsAtStore (key : Key) (old new : Moment) : Type 0 where
  pub rose : old.pages.faults < new.pages.faults
  pub missed : IfMayBe old new
      (λ pages. Fails (step_at pages key old).asked old.pages new.pages)
  pub unwritten : new.sink ≡ old.sink
  pub stays : Stays old.pages new.pages

-- the sink failed
pub record FailsAtSink (key : Key) (old new : Moment) : Type 0 where
  pub leads : IfMayBe old new (λ pages. LeadsPart pages key old new)
  pub rose : old.sink.faults < new.sink.faults
  pub counts : old.sink.faults ≤ new.sink.faults
  pub stays : Stays old.pages new.pages
  pub steady : new.pages.faults ≡ old.pages.faults

-- memory ran out, and nothing was written
pub record RunsOut (old new : Moment) : Type 0 where
  pub unwritten : new.sink ≡ old.sink
  pub stays : Stays old.pages new.pages

-- why a session stops at a key, with each status, and with no other
pub data Stops (key : Key) (old new : Moment) : Status → Type 0 where
  at_store : FailsAtStore key old new → Stops key old new StoreFault
  at_sink : FailsAtSink key old new → Stops key old new WriteFault
  for_memory : RunsOut old new → Stops key old new NoMemory

-- a key was played, or the session stops
abbrev pub Plays : Key → Moment → Moment → {A : Type 0} → Result A Status → Type 0
Plays key old new (Ok done) = GoesOn key old new
Plays key old new (Err status) = Stops key old new status
