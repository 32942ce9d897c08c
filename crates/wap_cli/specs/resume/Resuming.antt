-- The command that goes on with a saved context: in which world, what keys come to there, and why
-- nothing is begun. This project's own.
use Rattle.std.specs.Prelude.{◌≡◌, ℕ, false, List, [], ◌∷◌, ◌++◌, Some, None, IfSome, ◌<◌, ◌+◌}
use Rattle.std.specs.Option.{option_and_then, option_map_or}
use Rattle.wap_base.specs.Contents.{Contents, page_named}
use Rattle.wap_devices.specs.Stores.{Known, told, Agrees}
use Rattle.wap_devices.specs.declared.store.Fetched.TheVariants.{Found}
use Rattle.wap_url.specs.Printing.{name_for}
use Rattle.wap_tokens.specs.declared.markup.deck.Deck.{Deck}
use Rattle.wap_image.specs.declared.context_parts.parts.ContextParts.{ContextParts}
use Rattle.wap_image.specs.declared.context_parts.fault.ImageFault.{ImageFault}
use Rattle.wap_image.specs.Images.{Saved, IsImage}
use Rattle.wap_image.specs.Refusal.{IsRefused}
use Rattle.wap_base.specs.declared.key.Key.{Key}
use Rattle.wap_world.specs.site.Asking.{Stays}
use Rattle.wap_pages.specs.declared.fault.PageFault.{PageFault}
use Rattle.wap_pages.specs.declared.fault.PageFault.TheVariants.{Missing, Image, NotDeck}
use Rattle.wap_pages.specs.Judged.{IsDeckPage, Refuses}
use Rattle.wap_world.specs.Shelves.{Shelf}
use Rattle.wap_world.specs.World.{World, last_entry, deck_at}
use Rattle.wap_world.specs.Steps.{Step}
use Rattle.wap_state.specs.Saved.{saved_world}
use Rattle.wap_context.specs.Saved.{with_last_in, asked_for}
use Rattle.wap_cli.specs.Answers.{IsPageOf}
use Rattle.wap_pages.specs.Memory.{is_of_memory}
use Rattle.wap_cli.specs.Networks.{Network, network_of}
use Rattle.wap_cli.specs.declared.status.Status.{Status}
use Rattle.wap_cli.specs.declared.status.Status.TheVariants.{Refused, StoreFault, NoMemory}
use Rattle.wap_cli.specs.browse.Outside.{Outside}
use Rattle.wap_cli.specs.browse.Plays.{Play, AreUnitPages}
use Rattle.wap_cli.specs.browse.Headline.{Browses}
use Rattle.wap_cli.specs.resume.Saving.{played_at}

-- ---- what keys come to

-- the world of what was saved, whose keys have so many turns
abbrev pub world_with : ContextParts → ℕ → World
world_with parts turns = record (saved_world parts) { budget = turns; turns = turns }

-- over a shelf: where the current card is past the end of its deck there, it is the first card
abbrev pub world_over : Shelf → World → World
world_over shelf world = option_map_or (λ deck. with_last_in deck world)
    (option_and_then (λ entry. deck_at shelf entry.url) (last_entry world)) world

-- over a network the page of the current card is asked for, and then keys are played from this
-- world; of an inbox nothing was saved
abbrev pub resumed_at : ContextParts → ℕ → Network → List Key → Step
resumed_at parts turns network keys =
    let step = played_at (world_over network.site.shelf (world_with parts turns)) network keys in
    record step { asked = asked_for parts ++ step.asked }

-- the same over pages
abbrev pub resumed : ContextParts → ℕ → Play
resumed parts turns pages keys = resumed_at parts turns (network_of pages) keys

-- ---- decks that are there, and why one isn't

-- there is a deck under this name
pub record IsDeckThere (contents : Contents) (name : List ℕ) : Type 0 where
  pub bytes : List ℕ
  pub page : page_named name contents ≡ Some bytes
  pub deck : Deck
  pub is : IsDeckPage name bytes deck

-- the current card, if there is one, has its deck there
abbrev pub HasDeck : Contents → ContextParts → Type 0
HasDeck contents parts =
    IfSome (last_entry (saved_world parts)) (λ entry. IsDeckThere contents (name_for entry.url))

-- a page with these bytes is accepted, and it is no deck where any pages may be the store's: else
-- it answered another page before
pub record IsNoDeck (known : Known) (name bytes : List ℕ) : Type 0 where
  pub accepted : (why : PageFault) → ¬ Refuses name bytes why
  pub other : (pages : Contents) → Agrees known pages → (deck : Deck) → ¬ IsDeckPage name bytes deck

-- there is no deck under this name, for this cause, which some page has: that of the name in any
-- pages that may be the store's
pub data IsDeckless (known : Known) (name : List ℕ) : PageFault → Type 0 where
  missing : IsPageOf known name None → IsDeckless known name Missing
  refused : (bytes : List ℕ) (why : PageFault) → IsPageOf known name (Some bytes)
      → Refuses name bytes why → IsDeckless known name why
  other : (bytes : List ℕ) → IsPageOf known name (Some bytes) → IsNoDeck known name bytes
      → IsDeckless known name NotDeck

-- the current card has no deck there, for this cause
pub record LacksDeck (known : Known) (parts : ContextParts) (why : PageFault) : Type 0 where
  pub name : List ℕ
  pub asked : asked_for parts ≡ (name, false) ∷ []
  pub deckless : IsDeckless known name why

-- ---- what is there under a name, and why nothing is

-- this was saved there, by the bytes of some page, which is that of the name in any pages that may
-- be the store's; and in these its current card has its deck
pub record IsThere (known : Known) (name : List ℕ) (saved : Saved) : Type 0 where
  pub bytes : List ℕ
  pub page : IsPageOf known name (Some bytes)
  pub image : IsImage bytes saved
  pub deck : (pages : Contents) → Agrees known pages → HasDeck pages saved.0

-- nothing is begun with what is there, for this cause, which some page has in the same way
pub data Hinders (known : Known) (name : List ℕ) : PageFault → Type 0 where
  missing : IsPageOf known name None → Hinders known name Missing
  refused : (bytes : List ℕ) (why : ImageFault) → IsPageOf known name (Some bytes)
      → IsRefused bytes why → Hinders known name (Image why)
  deckless : (bytes : List ℕ) (saved : Saved) (why : PageFault) → IsPageOf known name (Some bytes)
      → IsImage bytes saved → LacksDeck known saved.0 why → Hinders known name why

-- ---- where nothing is begun

-- a command ends that begins nothing, by the store's counts of faults: with each status, and with
-- no other
pub data Fails (Cause : PageFault → Type 0) (before after : ℕ) : Status → Type 0 where
  -- for one of these causes, and not since memory ran out
  refused : (fault : PageFault) → Cause fault → is_of_memory fault ≡ false → after ≡ before
      → Fails Cause before after (Refused fault)
  store_fault : before < after → Fails Cause before after StoreFault
  no_memory : Fails Cause before after NoMemory

-- nothing was begun: no key was read, and nothing written
pub record Unbegun (Cause : PageFault → Type 0) (old new : Outside) (status : Status) : Type 0 where
  pub ends : Fails Cause old.pages.faults new.pages.faults status
  pub stays : Stays old.pages new.pages
  pub unread : new.source ≡ old.source
  pub unwritten : new.sink ≡ old.sink

-- ---- the command

-- the store was asked for one page more, and gave these bytes
abbrev pub asked_once : List ℕ → List ℕ → Outside → Outside
asked_once name bytes outside = record outside {
  pages = record outside.pages {
    known = told outside.pages.known ((name, Found bytes) ∷ []) [];
    fetches = outside.pages.fetches + 1;
  };
}

-- a session goes on over these pages, which have this network, with what is there under a name,
-- once its image was fetched: from the outside before to the outside after, and the status
pub record GoesOn {P : Type 0} (Are : P → Type 0) (network : P → Network) (name : List ℕ)
    (old new : Outside) (status : Status) (saved : Saved) : Type 0 where
  pub there : IsThere new.pages.known name saved
  pub browses : Browses Are (λ pages. resumed_at saved.0 saved.1 (network pages))
      (asked_once name there.bytes old) new status

-- a session goes on over these pages, which have this network, with what was saved under a name, or
-- nothing is begun: from the outside before to the outside after, and the status
pub data Resumes {P : Type 0} (Are : P → Type 0) (network : P → Network) (name : List ℕ)
    (old new : Outside) (status : Status) : Type 0 where
  goes_on : (saved : Saved) → GoesOn Are network name old new status saved
      → Resumes Are network name old new status
  stops : Unbegun (Hinders new.pages.known name) old new status
      → Resumes Are network name old new status

-- the same over the pages that are seen
abbrev pub ResumesSeen : List ℕ → Outside → Outside → Status → Type 0
ResumesSeen name old new status =
    Resumes (AreUnitPages new.pages) network_of name old new status
