-- The world of a browser (WAP-191, sections 9.2 and 10): what it keeps between two keys.
use Rattle.std.specs.Prelude.{ℕ, slice_get, List, [], Option, Some, None}
use Rattle.std.specs.Option.{option_map, option_and_then}
use Rattle.std.specs.List.{last_or}
use Rattle.wap_base.specs.declared.limits.Limits.{Limits}
use Rattle.wap_url.specs.declared.url.Url.{Url}
use Rattle.wap_url.specs.Printing.{name_for}
use Rattle.wap_tokens.specs.declared.markup.deck.Deck.{Deck}
use Rattle.wap_tokens.specs.declared.markup.deck.Node.{Node}
use Rattle.wap_tokens.specs.markup.Cards.{cards_of}
use Rattle.wap_libs.specs.Generator.{Generator, started_from}
use Rattle.wap_vars.specs.Variables.{Variables}
use Rattle.wap_cardrules.specs.declared.task.Task.{Task}
use Rattle.wap_world.specs.declared.history.Entry.{Entry}
use Rattle.wap_world.specs.declared.timer.Timer.{Timer}
use Rattle.wap_world.specs.declared.timer.Timer.TheVariants.{NotStarted}
use Rattle.wap_world.specs.Shelves.{Shelved, deck_page, Shelf}

-- what a browser keeps
pub record World : Type 0 where
  pub vars : Variables
  -- the cards that were entered; the last is the current one
  pub history : List Entry
  pub timer : Timer
  -- the task that a script has asked for
  pub pending : Option Task
  -- the turns that each key has, and those that are left
  pub budget : ℕ
  pub turns : ℕ
  -- of the session's seed
  pub generator : Generator
  pub limits : Limits

-- a world in which nothing was done; without a card no timer is started
abbrev pub first_world : (seed budget : ℕ) → Limits → World
first_world seed budget limits = record {
  vars = [];
  history = [];
  timer = NotStarted;
  pending = None;
  budget = budget;
  turns = budget;
  generator = started_from seed seed;
  limits = limits;
}

-- ---- the current card

-- a card, its deck, and the deck's URL
pub record Place : Type 0 where
  pub url : Url
  pub deck : Deck
  pub card : Node

-- the deck that a page is, if it is one
abbrev pub deck_in : Shelved → Option Deck
deck_in (deck_page deck) = Some deck
deck_in other = None

-- the deck that pages have under the name of a URL
abbrev pub deck_at : Shelf → Url → Option Deck
deck_at shelf url = deck_in (shelf (name_for url))

-- the card of an entry in a deck, if the deck has so many
abbrev pub place_in : Entry → Deck → Option Place
place_in entry deck =
    option_map (λ card. record { url = entry.url; deck = deck; card = card })
    (slice_get (cards_of deck) entry.card)

-- the card of an entry, where pages have its deck
abbrev pub place_of : Shelf → Entry → Option Place
place_of shelf entry = option_and_then (place_in entry) (deck_at shelf entry.url)

-- the entry of the current card
abbrev pub last_entry : World → Option Entry
last_entry world = last_or None world.history

-- where the browser is, once a card was entered
abbrev pub place_now : Shelf → World → Option Place
place_now shelf world = option_and_then (place_of shelf) (last_entry world)
