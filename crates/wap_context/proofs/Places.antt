-- The place that a browser has at hand.
use Rattle.std.proofs.Common.{◌≡◌, ◌∙◌, Option, Some, None, refl, ap}
use Rattle.std.specs.List.{slice_get}
use Rattle.std.specs.Option.{option_map, option_and_then}
use Rattle.wap_tokens.specs.declared.markup.deck.Deck.{Deck}
use Rattle.wap_tokens.specs.declared.markup.deck.Node.{Node}
use Rattle.wap_tokens.specs.markup.Cards.{cards_of}
use Rattle.wap_world.specs.Shelves.{Shelf}
use Rattle.wap_world.specs.declared.history.Entry.{Entry}
use Rattle.wap_world.specs.World.{Place, place_in, place_of, place_now, deck_at, last_entry}
use Rattle.wap_context.specs.Browsers.{Browser, IsOver, place_held}
use Rattle.wap_state.specs.CardAtHand.{Held, held_in, placed}
use Rattle.wap_context.specs.inside.AtHand.{held}

-- ---- the place at hand is where the browser is

now_by : (shelf : Shelf) (entry : Option Entry) (deck : Option Deck)
    → option_and_then (λ (one : Entry). deck_at shelf one.url) entry ≡ deck
    → option_and_then (place_of shelf) entry
    ≡ option_and_then (λ (one : Entry). option_and_then (place_in one) deck) entry
now_by shelf None deck is = refl
now_by shelf (Some entry) deck is = ap (option_and_then (place_in entry)) is

pub held_now : (shelf : Shelf) (browser : Browser) → IsOver shelf browser
    → place_now shelf browser.world ≡ place_held browser
held_now shelf browser is = now_by shelf (last_entry browser.world) browser.deck is

-- ---- the card at hand

-- where a card is at hand
pub record IsAt (browser : Browser) (one : Held) : Type 0 where
  pub entry : Entry
  pub last : last_entry browser.world ≡ Some entry
  pub place : place_held browser ≡ Some (placed entry.url one)
  pub deck : browser.deck ≡ Some one.deck

record AtBy (last : Option Entry) (deck : Option Deck) (one : Held) : Type 0 where
  entry : Entry
  last_is : last ≡ Some entry
  place : option_and_then (λ (e : Entry). option_and_then (place_in e) deck) last
      ≡ Some (placed entry.url one)
  deck_is : deck ≡ Some one.deck

abbrev cards_at : Deck → Option Node → Option Held
cards_at deck card = option_map (λ found. record { deck = deck; card = found }) card

by_card : (entry : Entry) (deck : Deck) (one : Held) (card : Option Node)
    → slice_get (cards_of deck) entry.card ≡ card
    → cards_at deck card ≡ Some one → AtBy (Some entry) (Some deck) one
by_card entry deck one None is at = absurd (cc)
by_card entry deck one (Some card) is at =
    let same : record { deck = deck; card = card } ≡ one = cc in
    record {
      entry = entry;
      last_is = refl;
      place = ap (option_map (λ found. record { url = entry.url; deck = deck; card = found })) is
          ∙ ap (λ (o : Held). Some (placed entry.url o)) same;
      deck_is = ap (λ (o : Held). Some o.deck) same;
    }

by_entry : (last : Option Entry) (deck : Option Deck) (one : Held)
    → held_in deck (option_map (λ (e : Entry). e.card) last) ≡ Some one → AtBy last deck one
by_entry None None one at = absurd (cc)
by_entry None (Some deck) one at = absurd (cc)
by_entry (Some entry) None one at = absurd (cc)
by_entry (Some entry) (Some deck) one at =
    by_card entry deck one (slice_get (cards_of deck) entry.card) refl at

pub is_at : (browser : Browser) (one : Held) → held browser ≡ Some one → IsAt browser one
is_at browser one at =
    let found = by_entry (last_entry browser.world) browser.deck one at in
    record { entry = found.entry; last = found.last_is; place = found.place; deck = found.deck_is }

none_card : (entry : Entry) (deck : Deck) (card : Option Node) → cards_at deck card ≡ None
    → option_map {U = Place} (λ found. record { url = entry.url; deck = deck; card = found }) card
    ≡ None
none_card entry deck None at = refl
none_card entry deck (Some card) at = absurd (cc)

none_entry : (last : Option Entry) (deck : Option Deck)
    → held_in deck (option_map (λ (e : Entry). e.card) last) ≡ None
    → option_and_then (λ (e : Entry). option_and_then (place_in e) deck) last ≡ None
none_entry None deck at = refl
none_entry (Some entry) None at = refl
none_entry (Some entry) (Some deck) at =
    none_card entry deck (slice_get (cards_of deck) entry.card) at

-- where no card is at hand
pub is_nowhere : (browser : Browser) → held browser ≡ None → place_held browser ≡ None
is_nowhere browser at = none_entry (last_entry browser.world) browser.deck at
