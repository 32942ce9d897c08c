-- The deck at hand of a world that stands on a card.
use Rattle.std.proofs.Common.{◌≡◌, ◌≢◌, ◌∙◌, ◌↔◌, true, false, List, [], ◌∷◌, Option, Some, None}
use Rattle.std.proofs.Common.{refl, sym, ap}
use Rattle.std.specs.Prelude.{is_some}
use Rattle.std.specs.List.{last_or}
use Rattle.std.specs.Option.{option_and_then}
use Rattle.wap_tokens.specs.declared.markup.deck.Deck.{Deck}
use Rattle.wap_world.specs.declared.history.Entry.{Entry}
use Rattle.wap_world.specs.Shelves.{Shelf}
use Rattle.wap_world.specs.World.{place_in, place_of, deck_at, last_entry}
use Rattle.wap_world.specs.session_laws.Standing.{StandsOnCard}
use Rattle.wap_context.specs.Browsers.{Browser, IsOver, place_held}

-- a place is one of a deck
of_deck : (entry : Entry) (deck : Option Deck) → is_some (option_and_then (place_in entry) deck)
    ≡ true
    → is_some deck ≡ true
of_deck entry None is = is
of_deck entry (Some deck) is = refl

-- where the last entry has a place, it has a deck
deck_there : (shelf : Shelf) (last : Option Entry) (deck : Option Deck)
    → option_and_then (λ entry. deck_at shelf entry.url) last ≡ deck
    → is_some (option_and_then (place_of shelf) last) ≡ is_some last
    → is_some deck ≡ is_some last
deck_there shelf None deck over stands = ap is_some (sym over)
deck_there shelf (Some entry) deck over stands =
    ap is_some (sym over) ∙ of_deck entry (deck_at shelf entry.url) stands

-- so the place at hand is there
place_there : (shelf : Shelf) (last : Option Entry) (deck : Option Deck)
    → option_and_then (λ entry. deck_at shelf entry.url) last ≡ deck
    → is_some (option_and_then (place_of shelf) last) ≡ is_some last
    → is_some (option_and_then (λ entry. option_and_then (place_in entry) deck) last) ≡ is_some last
place_there shelf None deck over stands = refl
place_there shelf (Some entry) deck over stands =
    ap (λ (o : Option Deck). is_some (option_and_then (place_in entry) o)) (sym over) ∙ stands

-- ---- no last entry

some_last : (one : Entry) (others : List Entry) → last_or (Some one) others ≢ None
some_last one [] none = cc none
some_last one (other ∷ others) none = some_last other others none

no_last : (entries : List Entry) → last_or None entries ≡ None → entries ≡ []
no_last [] none = refl
no_last (entry ∷ entries) none = absurd (some_last entry entries none)

none_is : {X : Type 0} (o : Option X) → is_some o ≡ false → o ≡ None
none_is None none = refl
none_is (Some x) none = absurd (cc none)

module _ (shelf : Shelf) (browser : Browser) (over : IsOver shelf browser)
    (stands : StandsOnCard shelf browser.world) where
  same : is_some browser.deck ≡ is_some (last_entry browser.world)
  same = deck_there shelf (last_entry browser.world) browser.deck over stands.card

  pub deck_none : (browser.deck ≡ None) ↔ (browser.world.history ≡ [])
  deck_none = (
    λ none. no_last browser.world.history
        (none_is (last_entry browser.world) (sym same ∙ ap is_some none)),
    λ none. none_is browser.deck
        (same ∙ ap (λ (history : List Entry). is_some (last_or None history)) none),
  )

  pub card_there : is_some (place_held browser) ≡ is_some browser.deck
  card_there =
      place_there shelf (last_entry browser.world) browser.deck over stands.card ∙ sym same
