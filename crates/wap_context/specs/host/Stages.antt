-- The stage on which a script plays: what it sees of a browser and may change, and the view that it
-- makes with pages. This project's own.
use Rattle.std.specs.Prelude.{ℕ, List, Option}
use Rattle.std.specs.Option.{option_map}
use Rattle.wap_tokens.specs.declared.markup.deck.Deck.{Deck}
use Rattle.wap_world.specs.site.Pages.{Pages as JudgedPages}
use Rattle.wap_world.specs.site.Asking.{Seen}
use Rattle.wap_world.specs.World.{World}
use Rattle.wap_world.specs.scripting.UnitSites.{unit_pages}
use Rattle.wap_world.specs.scripting.Views.{Counted, View}

-- the world, the deck at hand and the lines so far
pub record Sight : Type 0 where
  pub world : World
  pub deck : Option Deck
  pub lines : List (List ℕ)

-- the same, and the turns that are left, which are counted apart
pub record Stage : Type 0 where
  pub world : World
  pub deck : Option Deck
  pub lines : List (List ℕ)
  pub turns : ℕ

abbrev pub sight_of : Stage → Sight
sight_of stage =
    record { world = stage.world; deck = stage.deck; lines = stage.lines }

-- ---- with pages

-- what pages count, where their cache is known
abbrev pub counted_in : Seen → Option Counted
counted_in seen = option_map (λ cache. record { cache = cache; fetches = seen.fetches }) seen.cache

-- the view, where these are the pages
abbrev pub view_in : Sight → Seen → JudgedPages → View
view_in sight seen judged = record {
  world = sight.world;
  deck = sight.deck;
  lines = sight.lines;
  pages = unit_pages judged;
  counted = counted_in seen;
}

abbrev pub told : Stage → Seen → JudgedPages → View
told stage seen judged = view_in (sight_of stage) seen judged

-- ---- fetches

-- how often the store was asked, where a view says it
abbrev pub fetched_in : View → Option ℕ
fetched_in view = option_map (λ counted. counted.fetches) view.counted
