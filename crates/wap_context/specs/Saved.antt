-- What is made of the parts of a context that was saved. This project's own.
use Rattle.std.specs.Prelude.{◌≡◌, ⊤, false, List, ◌++◌, map, Some, None, ◌<◌}
use Rattle.std.specs.Prelude.{IfSome, IfOk, OnOk, Result, Err}
use Rattle.std.specs.Option.{option_map_or, option_to_list}
use Rattle.wap_base.specs.declared.fault.RunErr.{RunErr}
use Rattle.wap_base.specs.declared.fault.RunErr.TheVariants.{Store}
use Rattle.wap_url.specs.Printing.{name_for}
use Rattle.wap_tokens.specs.declared.markup.deck.Deck.{Deck}
use Rattle.wap_image.specs.declared.context_parts.parts.ContextParts.{ContextParts}
use Rattle.wap_world.specs.declared.site.page.Page.{Page}
use Rattle.wap_world.specs.declared.site.page.Page.TheVariants as page
use Rattle.wap_world.specs.site.Pages.{Pages as JudgedPages, page_of}
use Rattle.wap_world.specs.site.Misses.{Asked}
use Rattle.wap_world.specs.site.Asking.{Seen, MayBe, Stays, Asks, Fails}
use Rattle.wap_world.specs.Shelves.{Shelf}
use Rattle.wap_world.specs.World.{World, last_entry}
use Rattle.wap_world.specs.History.{all_but_last, in_deck}
use Rattle.wap_world.specs.scripting.UnitSites.{shelf_of, unit_pages}
use Rattle.wap_state.specs.Saved.{saved_world}
use Rattle.wap_context.specs.declared.saved.Revived.{Revived}
use Rattle.wap_context.specs.declared.saved.Revived.TheVariants.{Context, Missing, Refused}
use Rattle.wap_context.specs.Browsers.{IsOver}

-- the world with its current card in a deck: past the deck's end it is the first card
abbrev pub with_last_in : Deck → World → World
with_last_in deck world = record world {
  history = all_but_last world.history ++ map (in_deck deck) (option_to_list (last_entry world));
}

-- by the page of the current card
abbrev pub revived_on : World → Page → Revived
revived_on world (page.Deck deck) =
    Context (record { world = with_last_in deck world; deck = Some deck })
revived_on world page.Missing = Missing
revived_on world other = Refused

-- what is made of parts, where this is the page of the current card; without a card it doesn't
-- matter
abbrev pub revived : ContextParts → Page → Revived
revived parts answer = let world = saved_world parts in
    option_map_or (λ entry. revived_on world answer) (last_entry world)
    (Context (record { world = world; deck = None }))

-- the page that is asked for: that of the current card, if there is one, and not fresh
abbrev pub asked_for : ContextParts → List Asked
asked_for parts = map (λ entry. (name_for entry.url, false))
    (option_to_list (last_entry (saved_world parts)))

-- the shelf has the deck of what was made
abbrev pub StandsOver : Shelf → Revived → Type 0
StandsOver shelf (Context browser) = IsOver shelf browser
StandsOver shelf other = ⊤

-- what is made of parts over any pages that these may be
pub record IsRevived (parts : ContextParts) (seen : Seen) (result : Revived) : Type 0 where
  -- the page of the current card
  pub answer : Page
  pub found : (pages : JudgedPages) → MayBe seen pages → IfSome (last_entry (saved_world parts))
      (λ entry. answer ≡ page_of (name_for entry.url) pages)
  pub is : result ≡ revived parts answer
  pub over : (pages : JudgedPages) → MayBe seen pages
      → StandsOver (shelf_of (unit_pages pages)) result

-- a call that makes a context of parts: the pages before and after, and the answer
pub record Revives (parts : ContextParts) (before after : Seen) (result : Result Revived RunErr) :
    Type 0 where
  pub is : IfOk result (IsRevived parts after)
  pub asks : OnOk result (Asks (asked_for parts) before after)
  -- the store failed at the page
  pub failed : result ≡ Err Store → before.faults < after.faults
  pub missed : result ≡ Err Store → Fails (asked_for parts) before after
  -- however it ends
  pub stays : Stays before after
