-- What is fetched of a store: what was saved, or the page of a deck.
use Rattle.std.proofs.Common.{◌≡◌, ℕ, List, Option, Some, None, Ok, Err, refl, sym, ap}
use Rattle.std.proofs.Common.{subst, inl, inr, ◌∙◌}
use Rattle.std.specs.Prelude.{Result, IfOk, IfErr}
use Rattle.wap_base.specs.Contents.{Contents, page_named}
use Rattle.wap_devices.specs.Contents.{answer_of, answer_for}
use Rattle.wap_devices.specs.Stores.{Known, Agrees, StoreSeen, Grew, Fetches}
use Rattle.wap_devices.proofs.Telling.{agrees_before}
use Rattle.wap_devices.specs.declared.store.Fetched.{Fetched}
use Rattle.wap_devices.specs.declared.store.Fetched.TheVariants as fetched
use Rattle.wap_devices.specs.declared.store.StoreErr.{StoreErr}
use Rattle.wap_devices.specs.declared.store.StoreErr.TheVariants as store_error
use Rattle.wap_image.specs.Images.{Saved, IsImage}
use Rattle.wap_image.specs.Rules.{MayBeSaved}
use Rattle.wap_pages.specs.declared.fault.PageFault.TheVariants as page_fault
use Rattle.wap_pages.proofs.Fetching.{grew_asked}
use Rattle.wap_cli.specs.declared.status.Status.{Status}
use Rattle.wap_cli.specs.declared.status.Status.TheVariants.{Refused, StoreFault, NoMemory}
use Rattle.wap_cli.specs.Answers.{IsPageOf, page_of}
use Rattle.wap_cli.specs.resume.Resuming.{Hinders, Fails}
use Rattle.wap_cli.specs.resume.inside.Loading.{IsFetched, IsUnread, Loads, IsCause}
use Rattle.wap_cli.specs.resume.inside.Loading.{IsDeckFault, RefusesDeck}

-- ---- the answer

page_of_answer : (page : Option (List ℕ)) → page_of (answer_of page) ≡ page
page_of_answer (Some bytes) = refl
page_of_answer None = refl

-- what the store answered is the page of the name
pub found_page : (known : Known) (name : List ℕ) (answer : Fetched)
    → ((pages : Contents) → Agrees known pages → answer ≡ answer_for name pages)
    → IsPageOf known name (page_of answer)
found_page known name answer is =
    λ pages agrees. ap page_of (is pages agrees) ∙ page_of_answer (page_named name pages)

-- and is so still where more is known
pub page_later : (before after : Known) → Grew before after → (name : List ℕ)
    (page : Option (List ℕ)) → IsPageOf before name page → IsPageOf after name page
page_later before after grew name page is =
    λ pages agrees. is pages (agrees_before before after grew pages agrees)

-- whatever was answered, one page was asked for
pub is_fetched : (name : List ℕ) (before after : StoreSeen) (result : Result Fetched StoreErr)
    → Fetches name before after result → IsFetched before after
is_fetched name before after result fetches = record {
  known = grew_asked name before after result fetches;
  fetches = fetches.fetches;
  listings = fetches.listings;
  counts = fetches.asked.counts;
}

-- ---- what was saved

module _ (name : List ℕ) (before after : StoreSeen) where
  -- the bytes of its page, or none
  was_found : (bytes : List ℕ) → Fetches name before after (Ok (fetched.Found bytes))
      → IsPageOf after.known name (Some bytes)
  was_found bytes fetches = found_page after.known name (fetched.Found bytes) fetches.found

  was_missing : Fetches name before after (Ok fetched.Missing)
      → IsPageOf after.known name None
  was_missing fetches = found_page after.known name fetched.Missing fetches.found

  abbrev Hindered : Status → Type 0
  Hindered status = Fails (Hinders after.known name) before.faults after.faults status

  -- the bytes are no image
  pub unread_none : (bytes : List ℕ) (status : Status)
      → Fetches name before after (Ok (fetched.Found bytes)) → IsUnread bytes status
      → Hindered status
  unread_none bytes status fetches (inl is) =
      subst Hindered (sym is) Fails.no_memory
  unread_none bytes status fetches (inr (why, is, plain, refused)) =
      subst Hindered (sym is)
      (Fails.refused (page_fault.Image why)
      (Hinders.refused bytes why (was_found bytes fetches) refused) plain fetches.asked.steady)

  -- there is none
  pub missing_none : Fetches name before after (Ok fetched.Missing)
      → Hindered (Refused page_fault.Missing)
  missing_none fetches =
      Fails.refused page_fault.Missing (Hinders.missing (was_missing fetches)) refl
      fetches.asked.steady

  -- nothing is loaded
  pub loads_none : (status : Status) → Hindered status → IsFetched before after
      → Loads name before after (Err status)
  loads_none status none fetched =
      record { found = tt; rules = tt; steady = tt; none = none; fetched = fetched }

  -- it is loaded
  pub loads_some : (bytes : List ℕ) (saved : Saved)
      → Fetches name before after (Ok (fetched.Found bytes)) → IsImage bytes saved
      → MayBeSaved saved.0 saved.1 → Loads name before after (Ok saved)
  loads_some bytes saved fetches image rules = record {
    found = (bytes, fetches.told, was_found bytes fetches, image);
    rules = rules;
    steady = fetches.asked.steady;
    none = tt;
    fetched = is_fetched name before after (Ok (fetched.Found bytes)) fetches;
  }

  -- ---- the deck

  abbrev Undecked : Status → Type 0
  Undecked status = Fails (IsCause after.known name) before.faults after.faults status

  -- its bytes are those of no deck
  pub deck_none : (bytes : List ℕ) (status : Status)
      → Fetches name before after (Ok (fetched.Found bytes)) → IsDeckFault name bytes status
      → Undecked status
  deck_none bytes status fetches (inl is) =
      subst Undecked (sym is) Fails.no_memory
  deck_none bytes status fetches (inr (inl (why, is, plain, refused))) =
      subst Undecked (sym is)
      (Fails.refused why
      (IsCause.refused bytes why (was_found bytes fetches) refused) plain fetches.asked.steady)
  deck_none bytes status fetches (inr (inr (is, accepted))) =
      subst Undecked (sym is)
      (Fails.refused page_fault.NotDeck
      (IsCause.accepted bytes (was_found bytes fetches) accepted) refl fetches.asked.steady)

  -- there is none any more
  pub deck_gone : Fetches name before after (Ok fetched.Missing)
      → Undecked (Refused page_fault.Missing)
  deck_gone fetches =
      Fails.refused page_fault.Missing (IsCause.missing (was_missing fetches)) refl
      fetches.asked.steady

-- ---- what a fetch comes to

module _ (name : List ℕ) (before after : StoreSeen) where
  -- something was saved there, or its bytes are no image
  pub loads_found : (bytes slice : List ℕ) (result : Result Saved Status) → slice ≡ bytes
      → Fetches name before after (Ok (fetched.Found bytes))
      → IfOk result (λ saved. IsImage slice saved)
      → IfOk result (λ saved. MayBeSaved saved.0 saved.1)
      → IfErr result (λ status. IsUnread slice status) → Loads name before after result
  loads_found bytes slice (Ok saved) same fetches image rules unread =
      loads_some name before after bytes saved fetches
      (subst (λ (b : List ℕ). IsImage b saved) same image) rules
  loads_found bytes slice (Err status) same fetches image rules unread =
      loads_none name before after status
      (unread_none name before after bytes status fetches
      (subst (λ (b : List ℕ). IsUnread b status) same unread))
      (is_fetched name before after (Ok (fetched.Found bytes)) fetches)

  -- nothing was
  pub loads_missing : Fetches name before after (Ok fetched.Missing)
      → Loads name before after (Err (Refused page_fault.Missing))
  loads_missing fetches = loads_none name before after (Refused page_fault.Missing)
      (missing_none name before after fetches)
      (is_fetched name before after (Ok fetched.Missing) fetches)

  -- the store failed, or memory ran out
  pub loads_fault : Fetches name before after (Err store_error.Failed)
      → Loads name before after (Err StoreFault)
  loads_fault fetches = loads_none name before after StoreFault
      (Fails.store_fault (fetches.asked.failed refl))
      (is_fetched name before after (Err store_error.Failed) fetches)

  pub loads_lost : Fetches name before after (Err store_error.NoMemory)
      → Loads name before after (Err NoMemory)
  loads_lost fetches = loads_none name before after NoMemory
      Fails.no_memory
      (is_fetched name before after (Err store_error.NoMemory) fetches)

  -- the page of the deck was fetched
  pub refuses_found : (bytes slice : List ℕ) (status : Status) → slice ≡ bytes
      → Fetches name before after (Ok (fetched.Found bytes)) → IsDeckFault name slice status
      → RefusesDeck name before after status
  refuses_found bytes slice status same fetches fault = record {
    none = deck_none name before after bytes status fetches
        (subst (λ (b : List ℕ). IsDeckFault name b status) same fault);
    fetched = is_fetched name before after (Ok (fetched.Found bytes)) fetches;
  }

  -- or is gone
  pub refuses_missing : Fetches name before after (Ok fetched.Missing)
      → RefusesDeck name before after (Refused page_fault.Missing)
  refuses_missing fetches = record {
    none = deck_gone name before after fetches;
    fetched = is_fetched name before after (Ok fetched.Missing) fetches;
  }

  -- the store failed, or memory ran out
  pub refuses_fault : Fetches name before after (Err store_error.Failed)
      → RefusesDeck name before after StoreFault
  refuses_fault fetches = record {
    none = Fails.store_fault (fetches.asked.failed refl);
    fetched = is_fetched name before after (Err store_error.Failed) fetches;
  }

  pub refuses_lost : Fetches name before after (Err store_error.NoMemory)
      → RefusesDeck name before after NoMemory
  refuses_lost fetches = record {
    none = Fails.no_memory;
    fetched = is_fetched name before after (Err store_error.NoMemory) fetches;
  }
