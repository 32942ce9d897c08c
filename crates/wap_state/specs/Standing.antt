-- What is so of each world of a browser. This project's own.
use Rattle.std.specs.Prelude.{◌≡◌, ⊤, ℕ, ◌<◌, ◌≤◌, List, length, Option, Some, None}
use Rattle.wap_base.specs.declared.limits.Limits.{Limits}
use Rattle.wap_base.specs.Limits.{AreInRange}
use Rattle.wap_tokens.specs.declared.markup.deck.Deck.{Deck}
use Rattle.wap_tokens.specs.markup.Cards.{cards_of}
use Rattle.wap_world.specs.declared.history.Entry.{Entry}
use Rattle.wap_world.specs.declared.timer.Timer.{Timer}
use Rattle.wap_world.specs.declared.timer.Timer.TheVariants.{Running}

-- the limits may be chosen, the history has no more entries than its limit, and a timer that runs
-- has some time left
pub record KeepsRules (limits : Limits) (history : List Entry) (timer : Timer) : Type 0 where
  pub range : AreInRange limits
  pub few : length history ≤ limits.history
  pub runs : (tenths : ℕ) → timer ≡ Running tenths → 0 < tenths

-- a deck is at hand exactly where a card was entered, and the card of the last entry is one of it
abbrev pub StandsIn : Option Entry → Option Deck → Type 0
StandsIn None None = ⊤
StandsIn None (Some deck) = ⊥
StandsIn (Some entry) None = ⊥
StandsIn (Some entry) (Some deck) = entry.card < length (cards_of deck)
