-- Where a world is: the deck that a shelf has there, and what leaves a world where it is.
use Rattle.std.proofs.Common.{◌≡◌, ℕ, List, Option, Some, None, refl, sym, ap, ◌∙◌, [], ◌∷◌, ◌++◌}
use Rattle.std.proofs.Common.{length, drop}
use Rattle.std.specs.Prelude.{slice_get, nat_lt, if◌then◌else◌}
use Rattle.std.specs.Option.{option_map, option_and_then}
use Rattle.std.specs.List.{last_or}
use Rattle.wap_url.specs.declared.url.Url.{Url}
use Rattle.wap_tokens.specs.declared.markup.deck.Deck.{Deck}
use Rattle.wap_tokens.specs.declared.markup.deck.Node.{Node}
use Rattle.wap_tokens.specs.markup.Cards.{cards_of}
use Rattle.wap_cardrules.specs.Timers.{timer_in, timer_variable}
use Rattle.wap_cardrules.specs.Values.{Pairs}
use Rattle.wap_world.specs.declared.history.Entry.{Entry}
use Rattle.wap_world.specs.declared.timer.Timer.{Timer}
use Rattle.wap_world.specs.declared.timer.Timer.TheVariants.{Running}
use Rattle.wap_world.specs.Shelves.{Shelf}
use Rattle.wap_world.specs.World.{World, Place, place_in, place_of, place_now, deck_at, last_entry}
use Rattle.wap_world.specs.Timers.{store_under, store_left}
use Rattle.wap_world.specs.Screens.{at_place}
use Rattle.wap_world.specs.Entering.{leave_place}
use Rattle.wap_world.specs.History.{pushed, entry_of, in_deck, back_at, all_but_last}
use Rattle.wap_world.specs.Tasks.{leave_and_set}
use Rattle.wap_world.proofs.Entries.{last_pushed, earlier_url}

-- ---- its deck

card_there : (shelf : Shelf) (entry : Entry) (deck : Deck) (card : Option Node) (place : Place)
    → option_map (λ found. record { url = entry.url; deck = deck; card = found }) card ≡ Some place
    → deck_at shelf entry.url ≡ Some deck → deck_at shelf place.url ≡ Some place.deck
card_there shelf entry deck None place is has = absurd (cc)
card_there shelf entry deck (Some card) place is has =
    let url : entry.url ≡ place.url = cc in
    let same : deck ≡ place.deck = cc in
    ap (deck_at shelf) (sym url) ∙ has ∙ ap Some same

entry_there : (shelf : Shelf) (entry : Entry) (deck : Option Deck) (place : Place)
    → option_and_then (place_in entry) deck ≡ Some place → deck_at shelf entry.url ≡ deck
    → deck_at shelf place.url ≡ Some place.deck
entry_there shelf entry None place is has = absurd (cc)
entry_there shelf entry (Some deck) place is has =
    card_there shelf entry deck (slice_get (cards_of deck) entry.card) place is has

last_there : (shelf : Shelf) (last : Option Entry) (place : Place)
    → option_and_then (place_of shelf) last ≡ Some place
    → deck_at shelf place.url ≡ Some place.deck
last_there shelf None place is = absurd (cc)
last_there shelf (Some entry) place is =
    entry_there shelf entry (deck_at shelf entry.url) place is refl

-- the deck of the place where a world is stands under its URL
pub deck_there : (shelf : Shelf) (w : World) (place : Place) → place_now shelf w ≡ Some place
    → deck_at shelf place.url ≡ Some place.deck
deck_there shelf w place is = last_there shelf (last_entry w) place is

-- ---- leaving a card

under_history : (name : Option (List ℕ)) (time : ℕ) (w : World)
    → (store_under name time w).world.history ≡ w.history
under_history None time w = refl
under_history (Some name) time w = refl

left_history : (t : Timer) (card : Node) (w : World)
    → (store_left t card w).world.history ≡ w.history
left_history (Running time) card w =
    under_history (option_and_then timer_variable (timer_in card)) time w
left_history _ card w = refl

leave_history : (place : Option Place) (w : World)
    → (at_place leave_place place w).world.history ≡ w.history
leave_history None w = refl
leave_history (Some place) w = left_history w.timer place.card w

-- leaving a card and setting variables leaves the world where it is
pub left_there : (shelf : Shelf) (place : Option Place) (sets : Pairs) (w : World)
    → place_now shelf (leave_and_set place sets w).world ≡ place_now shelf w
left_there shelf place sets w =
    ap (λ (history : List Entry). option_and_then (place_of shelf) (last_or None history))
    (leave_history place w)

-- ---- entering one

-- a world whose last entry is this is at its card in the deck that stands there
there : (shelf : Shelf) (others : List Entry) (entry : Entry) (deck : Deck) (w : World)
    → w.history ≡ others ++ entry ∷ [] → deck_at shelf entry.url ≡ Some deck
    → place_now shelf w ≡ place_in entry deck
there shelf others entry deck w is has =
    ap (option_and_then (place_of shelf)) (ap (last_or None) is ∙ last_pushed None others entry)
    ∙ ap (option_and_then (place_in entry)) has

-- so is one onto whose history an entry was pushed
pub pushed_there : (shelf : Shelf) (w : World) (url : Url) (n : ℕ) (deck : Deck)
    → deck_at shelf url ≡ Some deck
    → place_now shelf (pushed w (entry_of url n)) ≡ place_in (entry_of url n) deck
pushed_there shelf w url n deck has =
    let others =
    if nat_lt (length w.history) w.limits.history then w.history else drop 1 w.history in
    there shelf others (entry_of url n) deck (pushed w (entry_of url n)) refl has

-- and one that went back to an earlier entry
pub back_there : (shelf : Shelf) (w : World) (earlier : Entry) (deck : Deck)
    → deck_at shelf earlier.url ≡ Some deck
    → place_now shelf (back_at w (in_deck deck earlier)) ≡ place_in (in_deck deck earlier) deck
back_there shelf w earlier deck has =
    let entry = in_deck deck earlier in
    there shelf (all_but_last (all_but_last w.history)) entry deck (back_at w entry) refl
    (ap (deck_at shelf) (earlier_url (nat_lt earlier.card (length (cards_of deck))) earlier) ∙ has)
