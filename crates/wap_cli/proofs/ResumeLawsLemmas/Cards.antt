-- Each deck of a store has a card.
use Rattle.std.proofs.Common.{◌≡◌, ◌<◌, ℕ, List, Option, Some, None, length, sym, ap, ◌∙◌}
use Rattle.wap_base.specs.Contents.{Contents, names_of, page_named}
use Rattle.wap_base.specs.Texts.{AreDistinct}
use Rattle.wap_url.specs.Printing.{name_for}
use Rattle.wap_tokens.specs.declared.markup.deck.Deck.{Deck}
use Rattle.wap_tokens.specs.markup.Cards.{cards_of}
use Rattle.wap_world.specs.declared.site.page.Page.{Page}
use Rattle.wap_world.specs.declared.site.page.Page.TheVariants as page
use Rattle.wap_world.specs.site.Pages.{page_of}
use Rattle.wap_pages.specs.Judged.{judged, page_where}
use Rattle.wap_pages.proofs.Judgements.{page_of-judged, page_deck, judged_pages_fit}
use Rattle.wap_world.specs.World.{deck_in}
use Rattle.wap_world.specs.session_laws.Standing.{HaveCards}
use Rattle.wap_world.specs.scripting.UnitSites.{shelf_of, unit_pages}
use Rattle.wap_context.specs.host.Finding.{shelved_page}
use Rattle.wap_context.proofs.HostLemmas.Shelves.{shelved_is}

-- a page that a shelf has as this deck is it
deck_is : (one : Page) (deck : Deck) → deck_in (shelved_page one) ≡ Some deck
    → one ≡ page.Deck deck
deck_is (page.Deck other) deck is = ap (λ (d : Deck). page.Deck d) (same other deck is)
  where
    same : (one other : Deck) → ◌≡◌ {A = Option Deck} (Some one) (Some other) → one ≡ other
    same one other is = cc
deck_is (page.Script unit) deck is = absurd cc
deck_is (page.Words text) deck is = absurd cc
deck_is page.Refused deck is = absurd cc
deck_is page.Missing deck is = absurd cc

-- so a page with bytes that is a deck has a card
card_where : (name : List ℕ) (found : Option (List ℕ)) (deck : Deck)
    → page_where name found ≡ page.Deck deck → 0 < length (cards_of deck)
card_where name (Some bytes) deck is = (page_deck name bytes deck is).good.card
card_where name None deck is = absurd cc

pub judged_have_cards : (contents : Contents) → AreDistinct (names_of contents)
    → HaveCards (shelf_of (unit_pages (judged contents)))
judged_have_cards contents distinct url deck has =
    let name = name_for url in
    let pages = judged contents in
    card_where name (page_named name contents) deck
    (sym (page_of-judged name contents)
    ∙ deck_is (page_of name pages) deck
    (sym (ap deck_in (shelved_is name pages (judged_pages_fit contents distinct))) ∙ has))
