-- The deck at hand is the one that a shelf has under the URL of the place.
use Rattle.std.proofs.Common.{◌≡◌, ◌∙◌, ℕ, Bool, true, false, Option, Some, None, refl, sym, subst}
use Rattle.std.specs.Prelude.{if◌then◌else◌}
use Rattle.std.specs.Option.{option_and_then}
use Rattle.wap_url.specs.declared.url.Url.{Url}
use Rattle.wap_tokens.specs.declared.markup.deck.Deck.{Deck}
use Rattle.wap_world.specs.declared.history.Entry.{Entry}
use Rattle.wap_world.specs.History.{entry_of}
use Rattle.wap_world.specs.Shelves.{Shelf}
use Rattle.wap_world.specs.World.{Place}
use Rattle.wap_world.specs.Urls.{is_same_page}
use Rattle.wap_world.specs.Requests.{Request}
use Rattle.wap_world.specs.Tasks.{is_here}
use Rattle.wap_context.specs.Browsers.{Browser, IsOver, place_held}
use Rattle.wap_context.specs.inside.AtHand.{page_under, page_here}
use Rattle.wap_context.specs.inside.Moving.{HasDeck}
use Rattle.wap_world.proofs.Places.{deck_there}
use Rattle.wap_context.proofs.Places.{held_now}

abbrev pub Page : Type 0
Page = Url × Deck

abbrev pub page_of_place : Place → Page
page_of_place place = (place.url, place.deck)

-- ---- the deck of a place

held_has : (shelf : Shelf) (browser : Browser) (place : Place) → place_held browser ≡ Some place
    → IsOver shelf browser → HasDeck place.url place.deck shelf
held_has shelf browser place held over =
    deck_there shelf browser.world place (held_now shelf browser over ∙ held)

-- ---- a page that a test finds there

found_if : (shelf : Shelf) (place : Place) (page : Page) (found : Bool)
    → (if found then Some (page_of_place place) else None) ≡ Some page
    → HasDeck place.url place.deck shelf → HasDeck page.0 page.1 shelf
found_if shelf place page true is has =
    let same : page_of_place place ≡ page = cc in
    subst (λ (one : Page). HasDeck one.0 one.1 shelf) same has
found_if shelf place page false is has = absurd (cc)

found_has : (shelf : Shelf) (browser : Browser) (place : Option Place)
    (test : Place → Bool) (page : Page)
    → place_held browser ≡ place → IsOver shelf browser
    → option_and_then (λ (p : Place). if test p then Some (page_of_place p) else None) place
    ≡ Some page
    → HasDeck page.0 page.1 shelf
found_has shelf browser None test page held over is = absurd (cc)
found_has shelf browser (Some place) test page held over is =
    found_if shelf place page (test place) is (held_has shelf browser place held over)

pub under_has : (browser : Browser) (url : Url) (page : Page)
    → Some page ≡ page_under url (place_held browser)
    → (shelf : Shelf) → IsOver shelf browser → HasDeck page.0 page.1 shelf
under_has browser url page is shelf over =
    found_has shelf browser (place_held browser)
    (λ p. is_same_page url p.url) page refl over (sym is)

pub here_has : (browser : Browser) (one : Request) (page : Page)
    → Some page ≡ page_here one (place_held browser)
    → (shelf : Shelf) → IsOver shelf browser → HasDeck page.0 page.1 shelf
here_has browser one page is shelf over =
    found_has shelf browser (place_held browser) (is_here one) page refl over (sym is)

-- ---- an entry by the URL of the place, which has no fragment

pub entry_here : (here : Url) (earlier : Entry) (card : ℕ) → card ≡ earlier.card
    → here.fragment ≡ None → entry_of here card ≡ record earlier { url = here }
entry_here here earlier card same whole =
    λ i. record { url = record here { fragment = sym whole i }; card = same i }
