-- Worlds that stand on a card (WAP-191, section 9.2).
use Rattle.std.specs.Prelude.{◌≡◌, ◌<◌, [], length, Some, is_some}
use Rattle.wap_url.specs.declared.url.Url.{Url}
use Rattle.wap_tokens.specs.declared.markup.deck.Deck.{Deck}
use Rattle.wap_tokens.specs.markup.Cards.{cards_of}
use Rattle.wap_world.specs.Shelves.{Shelf}
use Rattle.wap_world.specs.declared.timer.Timer.TheVariants.{NotStarted}
use Rattle.wap_world.specs.World.{World, deck_at, place_now, last_entry}

-- each deck of a shelf has a card, as every good deck does
abbrev pub HaveCards : Shelf → Type 0
HaveCards shelf =
    (url : Url) (deck : Deck) → deck_at shelf url ≡ Some deck → 0 < length (cards_of deck)

-- where a card was entered, the shelf has a deck under the URL of the last entry, and its card
-- is one of that deck; before that no timer is started
pub record StandsOnCard (shelf : Shelf) (world : World) : Type 0 where
  pub card : is_some (place_now shelf world) ≡ is_some (last_entry world)
  pub timer : world.history ≡ [] → world.timer ≡ NotStarted
