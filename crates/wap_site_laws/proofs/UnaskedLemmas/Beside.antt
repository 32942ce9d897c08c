-- Shelves that have no page under some names, and what worlds show over them that are on none.
use Rattle.std.proofs.Common.{◌≡◌, ℕ, Bool, true, false, List, ◌∷◌, ◌++◌, cond, Option, Some, None}
use Rattle.std.proofs.Common.{refl, sym, ap, ◌∙◌, nat_lt, length, drop}
use Rattle.std.proofs.lemmas.Bool.{or_left, or_right}
use Rattle.std.proofs.lemmas.List.Folds.{list_any-append}
use Rattle.std.specs.Option.{option_and_then, option_map_or}
use Rattle.wap_tokens.specs.declared.markup.deck.Deck.{Deck}
use Rattle.wap_tokens.specs.markup.Cards.{cards_of}
use Rattle.wap_world.specs.site.Misses.{Asked}
use Rattle.wap_url.specs.declared.url.Url.{Url}
use Rattle.wap_url.specs.Printing.{name_for}
use Rattle.wap_world.specs.declared.history.Entry.{Entry}
use Rattle.wap_world.specs.Shelves.{Shelf, Shelved, no_page}
use Rattle.wap_world.specs.World.{World, Place, place_in, place_of, place_now, last_entry, deck_in}
use Rattle.wap_world.specs.World.{deck_at}
use Rattle.wap_world.specs.History.{pushed, entry_of, in_deck, back_at, all_but_last}
use Rattle.wap_world.proofs.Entries.{last_pushed, earlier_url}
use Rattle.wap_world.proofs.Places.{deck_there}
use Rattle.wap_site_laws.specs.unasked.Unasked.{is_asked, is_on}

module _ (among : List ℕ → Bool) where
  -- ---- what was asked for

  -- one of these names was asked for
  abbrev pub Asks : List Asked → Type 0
  Asks asked = is_asked among asked ≡ true

  -- before others
  pub first : (one other : List Asked) → Asks one → Asks (one ++ other)
  first one other is =
      list_any-append (λ (a : Asked). among a.0) one other
      ∙ or_left (is_asked among one) (is_asked among other) is

  -- and after others
  pub second : (one other : List Asked) → Asks other → Asks (one ++ other)
  second one other is =
      list_any-append (λ (a : Asked). among a.0) one other
      ∙ or_right (is_asked among one) (is_asked among other) is

  -- by a page that is asked for
  pub asks_it : (name : List ℕ) (fresh : Bool) (others : List Asked) → among name ≡ true
      → Asks ((name, fresh) ∷ others)
  asks_it name fresh others is = or_left (among name) (is_asked among others) is

  -- ---- where a world is

  -- the world is on none of these names
  abbrev pub Clear : World → Type 0
  Clear w = is_on among w ≡ false

  -- by its last entry
  clear_by : (w : World) (e : Entry) → last_entry w ≡ Some e → among (name_for e.url) ≡ false
      → Clear w
  clear_by w e last off =
      ap (λ (o : Option Entry). option_map_or (λ (f : Entry). among (name_for f.url)) o false) last
      ∙ off

  -- once a card of another name was pushed
  pub pushed_clear : (w : World) (url : Url) (number : ℕ) → among (name_for url) ≡ false
      → Clear (pushed w (entry_of url number))
  pushed_clear w url number off =
      clear_by (pushed w (entry_of url number)) (entry_of url number)
      (last_pushed None
      (cond (nat_lt (length w.history) w.limits.history) w.history (drop 1 w.history))
      (entry_of url number)) off

  -- and where the last entry is of another name
  pub popped_clear : (w : World) (e : Entry) (deck : Deck) → among (name_for e.url) ≡ false
      → Clear (back_at w (in_deck deck e))
  popped_clear w e deck off =
      clear_by (back_at w (in_deck deck e)) (in_deck deck e)
      (last_pushed None (all_but_last (all_but_last w.history)) (in_deck deck e))
      (ap (λ (url : Url). among (name_for url))
      (earlier_url (nat_lt e.card (length (cards_of deck))) e) ∙ off)

  -- ---- shelves

  module _ (shelf : Shelf) where
    -- the shelf without the pages of these names
    abbrev pub bare : Shelf
    bare name = cond (among name) no_page (shelf name)

    -- which has the others
    pub bare_same : (name : List ℕ) → among name ≡ false → shelf name ≡ bare name
    bare_same name off = ap (λ (b : Bool). cond b no_page (shelf name)) (sym off)

    -- its decks are of other names
    deck_off : (url : Url) (deck : Deck) → deck_at bare url ≡ Some deck
        → among (name_for url) ≡ false
    deck_off url deck has = by (among (name_for url)) has
      where
        by : (b : Bool) → deck_in (cond b no_page (shelf (name_for url))) ≡ Some deck → b ≡ false
        by true is = absurd cc
        by false is = refl

    -- and so is the card where a world is
    pub place_off : (w : World) (place : Place) → place_now bare w ≡ Some place
        → among (name_for place.url) ≡ false
    place_off w place is = deck_off place.url place.deck (deck_there bare w place is)

    -- ---- over both shelves

    -- a world is on the same card
    pub place_same : (w : World) → Clear w → place_now shelf w ≡ place_now bare w
    place_same w clear = by (last_entry w) clear
      where
        by : (o : Option Entry)
            → option_map_or (λ (e : Entry). among (name_for e.url)) o false ≡ false
            → option_and_then (place_of shelf) o ≡ option_and_then (place_of bare) o
        by None off = refl
        by (Some e) off =
            ap (λ (p : Shelved). option_and_then (place_in e) (deck_in p))
            (bare_same (name_for e.url) off)
