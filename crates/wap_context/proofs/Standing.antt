-- A card that is entered, or gone back to, is one of the deck at hand.
use Rattle.std.proofs.Common.{◌≡◌, ◌∙◌, ◌<◌, ◌↔◌, ℕ, List, [], ◌∷◌, ◌++◌, length}
use Rattle.std.proofs.Common.{Option, Some, None, refl, sym, ap, subst}
use Rattle.std.specs.Prelude.{is_some}
use Rattle.std.specs.List.{last_or}
use Rattle.std.specs.Option.{option_and_then, option_map}
use Rattle.wap_base.specs.declared.limits.Limits.{Limits}
use Rattle.wap_tokens.specs.declared.markup.deck.Deck.{Deck}
use Rattle.wap_tokens.specs.markup.Cards.{cards_of}
use Rattle.wap_world.specs.declared.history.Entry.{Entry}
use Rattle.wap_world.specs.World.{World, Place, place_in, last_entry, first_world}
use Rattle.wap_world.specs.History.{pushed, back_at, all_but_last}
use Rattle.wap_world.proofs.Entries.{last_pushed, last_none, item_some}
use Rattle.wap_state.specs.Standing.{StandsIn}
use Rattle.wap_context.specs.Browsers.{Browser, place_held}

-- ---- entries that are put at the end

stands_at : (world : World) (others : List Entry) (entry : Entry) (deck : Deck)
    → world.history ≡ others ++ entry ∷ [] → entry.card < length (cards_of deck)
    → StandsIn (last_entry world) (Some deck)
stands_at world others entry deck is below =
    subst (λ (o : Option Entry). StandsIn o (Some deck))
    (sym (ap (last_or None) is ∙ last_pushed None others entry)) below

pub stands_pushed : (old new : World) (entry : Entry) (deck : Deck) → new ≡ pushed old entry
    → entry.card < length (cards_of deck) → StandsIn (last_entry new) (Some deck)
stands_pushed old new entry deck is below =
    subst (λ (w : World). StandsIn (last_entry w) (Some deck)) (sym is)
    (stands_at (pushed old entry) _ entry deck refl below)

pub stands_back : (old new : World) (entry : Entry) (deck : Deck) → new ≡ back_at old entry
    → entry.card < length (cards_of deck) → StandsIn (last_entry new) (Some deck)
stands_back old new entry deck is below =
    subst (λ (w : World). StandsIn (last_entry w) (Some deck)) (sym is)
    (stands_at (back_at old entry) (all_but_last (all_but_last old.history)) entry deck refl below)

pub stands_last : (old new : World) (entry : Entry) (deck : Deck)
    → new ≡ record old { history = all_but_last old.history ++ entry ∷ [] }
    → entry.card < length (cards_of deck) → StandsIn (last_entry new) (Some deck)
stands_last old new entry deck is below =
    subst (λ (w : World). StandsIn (last_entry w) (Some deck)) (sym is)
    (stands_at (record old { history = all_but_last old.history ++ entry ∷ [] })
    (all_but_last old.history) entry deck refl below)

-- ---- what follows for the deck at hand

none_last : (last : Option Entry) (deck : Option Deck) → StandsIn last deck
    → (deck ≡ None) ↔ (last ≡ None)
none_last None None so = (λ is. refl, λ is. refl)
none_last None (Some deck) so = absurd (so)
none_last (Some entry) None so = absurd (so)
none_last (Some entry) (Some deck) so = (λ is. absurd (cc is), λ is. absurd (cc is))

-- there is none exactly where no card was entered
pub stands_empty : (history : List Entry) (deck : Option Deck)
    → StandsIn (last_or None history) deck → (deck ≡ None) ↔ (history ≡ [])
stands_empty history deck so =
    let both = none_last (last_or None history) deck so in (
      λ is. last_none history (both.0 is),
      λ is. both.1 (ap (last_or None) is),
    )

place_some : (last : Option Entry) (deck : Option Deck) → StandsIn last deck
    → is_some (option_and_then (λ (e : Entry). option_and_then (place_in e) deck) last)
    ≡ is_some deck
place_some None None so = refl
place_some None (Some deck) so = absurd (so)
place_some (Some entry) None so = absurd (so)
place_some (Some entry) (Some deck) so =
    item_some {Y = Place} (λ card. record { url = entry.url; deck = deck; card = card })
    (cards_of deck) entry.card so

-- it has the current card
pub stands_place : (browser : Browser) → StandsIn (last_entry browser.world) browser.deck
    → is_some (place_held browser) ≡ is_some browser.deck
stands_place browser so = place_some (last_entry browser.world) browser.deck so

-- the node of a place is there where the place is
pub map_some : (place : Option Place) → is_some (option_map (λ (p : Place). p.card) place)
    ≡ is_some place
map_some None = refl
map_some (Some place) = refl

-- ---- a world and a deck that are moved

pub stands_by : (old new : World) (before after : Option Deck) → new ≡ old → after ≡ before
    → StandsIn (last_entry old) before → StandsIn (last_entry new) after
stands_by old new before after same kept so =
    subst (λ (w : World). StandsIn (last_entry w) after) (sym same)
    (subst (λ (d : Option Deck). StandsIn (last_entry old) d) (sym kept) so)

-- ---- no card was entered

pub stands_none : (world : World) → last_entry world ≡ None → StandsIn (last_entry world) None
stands_none world is = subst (λ (o : Option Entry). StandsIn o None) (sym is) tt

pub stands_first : (world : World) (deck : Option Deck) (seed : ℕ) (limits : Limits)
    → world ≡ first_world seed 0 limits → deck ≡ None → StandsIn (last_entry world) deck
stands_first world deck seed limits is none =
    stands_by (first_world seed 0 limits) world None deck is none tt
