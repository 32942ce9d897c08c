-- The card that a browser has at hand, and its deck. This project's own.
use Rattle.std.specs.Prelude.{ℕ, slice_get, List, [], ◌∷◌, Option, Some, None}
use Rattle.std.specs.Option.{option_map, option_and_then}
use Rattle.std.specs.Fmt.{decimal}
use Rattle.wap_url.specs.declared.url.Url.{Url}
use Rattle.wap_tokens.specs.declared.markup.deck.Deck.{Deck}
use Rattle.wap_tokens.specs.declared.markup.deck.Node.{Node}
use Rattle.wap_tokens.specs.markup.Cards.{cards_of}
use Rattle.wap_cardrules.specs.Timers.{timer_in, timer_variable}
use Rattle.wap_cardrules.specs.Values.{Pairs}
use Rattle.wap_world.specs.World.{Place}

-- a card and its deck
pub record Held : Type 0 where
  pub deck : Deck
  pub card : Node

-- the card of a number in the deck at hand, if both are there
abbrev pub held_in : Option Deck → Option ℕ → Option Held
held_in deck number = option_and_then (λ one. option_and_then (λ n.
    option_map (λ card. record { deck = one; card = card }) (slice_get (cards_of one) n)) number)
    deck

-- it is a place, whatever the URL of its deck
abbrev pub placed : Url → Held → Place
placed url held = record { url = url; deck = held.deck; card = held.card }

-- what a timer with a name sets
abbrev pub store_pairs : Option (List ℕ) → ℕ → Pairs
store_pairs None time = []
store_pairs (Some name) time = (name, decimal time) ∷ []

-- what the timer of a card sets at a time
abbrev pub time_pairs : Node → ℕ → Pairs
time_pairs card time = store_pairs (option_and_then timer_variable (timer_in card)) time
