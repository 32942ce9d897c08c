-- What of a world at rest is saved, and the world that is made of that again. This project's own.
use Rattle.std.specs.Prelude.{◌≡◌, ◌≢◌, ℕ, List, [], ◌∷◌, map, None, Result, Ok, Err}
use Rattle.std.specs.Fn.{iterate}
use Rattle.std.specs.List.{flat_map}
use Rattle.wap_url.specs.declared.url.Url.{Url}
use Rattle.wap_url.specs.declared.fault.UrlFault.{UrlFault}
use Rattle.wap_url.specs.Calculation.{url_at}
use Rattle.wap_url.specs.Printing.{printed}
use Rattle.wap_libs.specs.Generator.{Generator, started_from, after_word}
use Rattle.wap_image.specs.declared.context_parts.parts.ContextParts.{ContextParts}
use Rattle.wap_image.specs.declared.context_parts.parts.SavedTimer.{SavedTimer}
use Rattle.wap_image.specs.declared.context_parts.parts.SavedTimer.TheVariants as saved
use Rattle.wap_world.specs.declared.history.Entry.{Entry}
use Rattle.wap_world.specs.declared.timer.Timer.{Timer}
use Rattle.wap_world.specs.declared.timer.Timer.TheVariants.{NotStarted, Running, Off, Expired}
use Rattle.wap_world.specs.World.{World}

-- ---- what is saved

-- a timer as it is saved; one that ran out while a script waited runs no more
abbrev pub saved_timer : Timer → SavedTimer
saved_timer NotStarted = saved.NotStarted
saved_timer (Running tenths) = saved.Running tenths
saved_timer other = saved.Off

-- the timer of a world; without a card it is not started
abbrev pub timer_in : List Entry → Timer → SavedTimer
timer_in [] timer = saved.NotStarted
timer_in (entry ∷ entries) timer = saved_timer timer

-- an entry of the history: its URL as it is written, and the number of its card
abbrev pub saved_entry : Entry → List ℕ × ℕ
saved_entry entry = (printed entry.url, entry.card)

-- the parts of a world
abbrev pub parts_of : World → ContextParts
parts_of world = record {
  vars = world.vars;
  history = map saved_entry world.history;
  timer = timer_in world.history world.timer;
  seed = world.generator.seed;
  start = world.generator.start;
  drawn = world.generator.drawn;
  limits = world.limits;
}

-- ---- the world of what is saved

-- the timer that was saved so
abbrev pub timer_of : SavedTimer → Timer
timer_of saved.NotStarted = NotStarted
timer_of (saved.Running tenths) = Running tenths
timer_of saved.Off = Off

-- the entry of a URL that was read and a card, if one was
abbrev pub entry_with : ℕ → Result Url UrlFault → List Entry
entry_with card (Ok url) = record { url = url; card = card } ∷ []
entry_with card (Err fault) = []

-- entries, whose URLs are read from how they are written
abbrev pub entries_of : List (List ℕ × ℕ) → List Entry
entries_of parts = flat_map (λ part. entry_with part.1 (url_at part.0)) parts

-- the session's generator after so many words since it last started
abbrev pub generator_at : ContextParts → Generator
generator_at parts = iterate after_word parts.drawn (started_from parts.seed parts.start)

-- the world with these parts, in which nothing is pending; it has no turns until a key begins
abbrev pub saved_world : ContextParts → World
saved_world parts = record {
  vars = parts.vars;
  history = entries_of parts.history;
  timer = timer_of parts.timer;
  pending = None;
  budget = 0;
  turns = 0;
  generator = generator_at parts;
  limits = parts.limits;
}

-- no script is at work in this world: none has asked for a task, or waits while the timer runs out;
-- and without a card the timer is not started
pub record IsAtRest (world : World) : Type 0 where
  pub none : world.pending ≡ None
  pub settled : world.timer ≢ Expired
  pub unstarted : world.history ≡ [] → world.timer ≡ NotStarted
