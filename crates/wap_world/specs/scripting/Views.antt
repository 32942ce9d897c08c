-- What a browser that runs a script sees: the world, the deck at hand, the lines so far, and of the
-- pages their contents and, where these are known, a cache and how often the store below it was
-- asked. It sees neither keys that are left nor access tests. This project's own.
use Rattle.std.specs.Prelude.{◌≡◌, ℕ, if◌then◌else◌, List, [], ◌∷◌, ◌++◌, Option, ◌+◌}
use Rattle.std.specs.Option.{option_map, option_and_then}
use Rattle.wap_tokens.specs.declared.markup.deck.Deck.{Deck}
use Rattle.wap_base.specs.declared.limits.Limits.{Limits}
use Rattle.wap_execution.specs.Outcomes.{Hosting}
use Rattle.wap_execution.specs.laws.Simulation.{RunAlike}
use Rattle.wap_world.specs.site.Misses.{Cache, Asked, is_miss, after_asking}
use Rattle.wap_world.specs.declared.history.Entry.{Entry}
use Rattle.wap_world.specs.World.{World, Place, place_in, place_of, last_entry}
use Rattle.wap_world.specs.Steps.{Step, still, quiet}
use Rattle.wap_world.specs.scripting.Hosting.{hosting}
use Rattle.wap_world.specs.scripting.UnitSites.{Pages, shelf_of, externals_of, unit_under, host_of}

-- what a cache holds, and how often the store below it was asked
pub record Counted : Type 0 where
  pub cache : Cache
  pub fetches : ℕ

-- a page more is asked for
abbrev pub counted_once : Asked → Counted → Counted
counted_once one counted = record {
  cache = after_asking one counted.cache;
  fetches = counted.fetches + (if is_miss one counted.cache then 1 else 0);
}

-- pages are asked for, one after the other
abbrev pub counted_all : List Asked → Option Counted → Option Counted
counted_all [] counted = counted
counted_all (one ∷ others) counted = counted_all others (option_map (counted_once one) counted)

-- what a browser sees
pub record View : Type 0 where
  pub world : World
  pub deck : Option Deck
  pub lines : List (List ℕ)
  pub pages : Pages
  pub counted : Option Counted

-- the current card, with the deck at hand
abbrev pub place_with : Option Deck → World → Option Place
place_with deck world =
    option_and_then (λ entry. option_and_then (place_in entry) deck) (last_entry world)

-- what a row of the definition adds to a step, added to a view
abbrev pub added : {A : Type 0} → View → A × Step → A × View
added view gave = (
  gave.0,
  record view {
    world = gave.1.world;
    lines = view.lines ++ gave.1.lines;
    counted = counted_all gave.1.asked view.counted;
  },
)

-- a step in which nothing was done yet
abbrev pub fresh : View → Step
fresh view = quiet [] (still view.world)

-- what a browser does for scripts over the pages that it sees, with the deck at hand
abbrev pub host_at : View → Hosting Step
host_at view =
    hosting (shelf_of view.pages) (place_with view.deck) (externals_of view.pages)
    (unit_under view.pages)

-- the same, seen so: what a step would gain, the view gains
abbrev pub viewing : Hosting View
viewing = record {
  external = λ view caller url name count working.
      added view ((host_at view).external (fresh view) caller url name count working);
  library = λ view base referer number index arguments.
      added view ((host_at view).library (fresh view) base referer number index arguments);
}

-- ---- the view of a step

-- what a browser sees of a step, over these pages, with this deck at hand, and where that much was
-- counted before the step
abbrev pub view_of : Pages → Option Deck → Option Counted → Step → View
view_of pages deck first step = record {
  world = step.world;
  deck = deck;
  lines = step.lines;
  pages = pages;
  counted = counted_all step.asked first;
}

-- the view is that of the step, whose current card is this entry's
pub record Shows (pages : Pages) (deck : Option Deck) (first : Option Counted)
    (entry : Option Entry) (step : Step) (view : View) : Type 0 where
  pub is : view ≡ view_of pages deck first step
  pub last : last_entry step.world ≡ entry

-- the deck at hand is that of the current card
abbrev pub IsAtHand : Pages → Option Deck → Option Entry → Type 0
IsAtHand pages deck entry =
    option_and_then (place_of (shelf_of pages)) entry
    ≡ option_and_then (λ e. option_and_then (place_in e) deck) entry

-- neither of them is ever lost, in the sense of `RunAlike`
abbrev pub NoStep : Step → Type 0
NoStep step = ⊥

abbrev pub NoView : View → Type 0
NoView view = ⊥

-- runs of the browser and of what it sees come to the same, where the deck at hand is the current
-- card's: to the same outcome with as many turns left, the same world and lines, and as many pages
-- asked of the store
abbrev pub ViewsRunAlike : Type 0
ViewsRunAlike =
    (pages : Pages) (deck : Option Deck) (first : Option Counted) (entry : Option Entry)
    → IsAtHand pages deck entry → (limits : Limits)
    → RunAlike (Shows pages deck first entry) NoStep NoView limits (host_of pages) viewing
