-- Fetching what was saved, and finding the deck of its current card. This project's own.
use Rattle.std.specs.Prelude.{◌≡◌, ◌⊎◌, ◌≤◌, ℕ, false, List, [], ◌∷◌, Some, None, Result, ◌+◌}
use Rattle.std.specs.Prelude.{IfOk, IfErr, OnOk}
use Rattle.wap_base.specs.Contents.{Contents}
use Rattle.wap_devices.specs.Stores.{Known, told, Agrees, StoreSeen, Grew}
use Rattle.wap_devices.specs.declared.store.Fetched.TheVariants.{Found}
use Rattle.wap_image.specs.declared.context_parts.fault.ImageFault.{ImageFault}
use Rattle.wap_image.specs.Images.{Saved, IsImage}
use Rattle.wap_image.specs.Rules.{MayBeSaved}
use Rattle.wap_image.specs.Refusal.{IsRefused}
use Rattle.wap_pages.specs.declared.fault.PageFault.{PageFault}
use Rattle.wap_pages.specs.declared.fault.PageFault.TheVariants.{Missing, Image, NotDeck}
use Rattle.wap_pages.specs.Judged.{Refuses}
use Rattle.wap_pages.specs.Memory.{is_of_memory}
use Rattle.wap_cli.specs.Answers.{IsPageOf}
use Rattle.wap_cli.specs.declared.status.Status.{Status}
use Rattle.wap_cli.specs.declared.status.Status.TheVariants.{Refused, NoMemory}
use Rattle.wap_cli.specs.browse.Outside.{Outside}
use Rattle.wap_cli.specs.browse.Headline.{BrowsesSeen}
use Rattle.wap_cli.specs.resume.Resuming.{resumed, HasDeck, LacksDeck, Hinders, Fails, Unbegun}

-- ---- one page that is fetched

-- a store before and after it was asked for one page
pub record IsFetched (before after : StoreSeen) : Type 0 where
  pub known : Grew before.known after.known
  pub fetches : after.fetches ≡ before.fetches + 1
  pub listings : after.listings ≡ before.listings
  pub counts : before.faults ≤ after.faults

-- ---- what was saved

-- a command ends so whose bytes are no image
abbrev pub IsUnread : List ℕ → Status → Type 0
IsUnread bytes status = (status ≡ NoMemory)
    ⊎ ((why : ImageFault) × (status ≡ Refused (Image why)) × (is_of_memory (Image why) ≡ false)
    × IsRefused bytes why)

-- what was saved under a name is fetched, or why there is nothing
pub record Loads (name : List ℕ) (before after : StoreSeen) (result : Result Saved Status) : Type 0
  where
    pub found : IfOk result (λ saved. (bytes : List ℕ)
        × (after.known ≡ told before.known ((name, Found bytes) ∷ []) [])
        × IsPageOf after.known name (Some bytes) × IsImage bytes saved)
    pub rules : IfOk result (λ saved. MayBeSaved saved.0 saved.1)
    pub steady : OnOk result (after.faults ≡ before.faults)
    pub none : IfErr result (Fails (Hinders after.known name) before.faults after.faults)
    pub fetched : IsFetched before after

-- ---- the deck of the current card

-- a command ends so whose page with these bytes is no deck
abbrev pub IsDeckFault : List ℕ → List ℕ → Status → Type 0
IsDeckFault name bytes status = (status ≡ NoMemory)
    ⊎ ((why : PageFault) × (status ≡ Refused why) × (is_of_memory why ≡ false)
    × Refuses name bytes why)
    ⊎ ((status ≡ Refused NotDeck) × ((why : PageFault) → ¬ Refuses name bytes why))

-- why the page of a name is refused where it is no deck: unlike for a deck, it may be accepted
pub data IsCause (known : Known) (name : List ℕ) : PageFault → Type 0 where
  missing : IsPageOf known name None → IsCause known name Missing
  refused : (bytes : List ℕ) (why : PageFault) → IsPageOf known name (Some bytes)
      → Refuses name bytes why → IsCause known name why
  accepted : (bytes : List ℕ) → IsPageOf known name (Some bytes)
      → ((why : PageFault) → ¬ Refuses name bytes why) → IsCause known name NotDeck

-- the page of a name is fetched anew, and judged for why it is no deck
pub record RefusesDeck (name : List ℕ) (before after : StoreSeen) (status : Status) : Type 0 where
  pub none : Fails (IsCause after.known name) before.faults after.faults status
  pub fetched : IsFetched before after

-- ---- all of it

-- a session goes on with what was saved, or nothing is begun
abbrev pub Continues : Saved → Outside → Outside → Status → Type 0
Continues saved old new status =
    (((pages : Contents) → Agrees new.pages.known pages → HasDeck pages saved.0)
    × BrowsesSeen (resumed saved.0 saved.1) old new status)
    ⊎ Unbegun (LacksDeck new.pages.known saved.0) old new status
