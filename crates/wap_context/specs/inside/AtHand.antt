-- What a browser has at hand of its current card. Contracts inside the crate cite it; those of its
-- public calls don't. This project's own.
use Rattle.std.specs.Prelude.{ℕ, if◌then◌else◌, Option, Some, None}
use Rattle.std.specs.Option.{option_map, option_and_then}
use Rattle.wap_url.specs.declared.url.Url.{Url}
use Rattle.wap_tokens.specs.declared.markup.deck.Deck.{Deck}
use Rattle.wap_world.specs.World.{Place, last_entry}
use Rattle.wap_world.specs.Requests.{Request}
use Rattle.wap_world.specs.Tasks.{is_here}
use Rattle.wap_world.specs.Urls.{is_same_page}
use Rattle.wap_state.specs.CardAtHand.{Held, held_in}
use Rattle.wap_context.specs.Browsers.{Browser}

-- the number of the current card
abbrev pub card_number : Browser → Option ℕ
card_number browser = option_map (λ entry. entry.card) (last_entry browser.world)

-- the card and its deck
abbrev pub held : Browser → Option Held
held browser = held_in browser.deck (card_number browser)

-- the URL and the deck of a place, where another URL is that of its page
abbrev pub page_under : Url → Option Place → Option (Url × Deck)
page_under url place = option_and_then
    (λ one. if is_same_page url one.url then Some (one.url, one.deck) else None) place

-- the same, where a request asks for it
abbrev pub page_here : Request → Option Place → Option (Url × Deck)
page_here request place = option_and_then
    (λ one. if is_here request one then Some (one.url, one.deck) else None) place
