-- How a command ends whose page of the current card is no deck, or isn't got.
use Rattle.std.proofs.Common.{◌≡◌, ℕ, false, List, [], ◌∷◌, Ok, Err, refl}
use Rattle.std.specs.Prelude.{Result}
use Rattle.wap_base.specs.declared.fault.RunErr.{RunErr}
use Rattle.wap_base.specs.declared.fault.RunErr.TheVariants as run_error
use Rattle.wap_devices.specs.Stores.{StoreSeen}
use Rattle.wap_devices.specs.Sources.{SourceSeen}
use Rattle.wap_devices.specs.Sinks.{SinkSeen}
use Rattle.wap_image.specs.declared.context_parts.parts.ContextParts.{ContextParts}
use Rattle.wap_world.specs.site.Misses.{Cache}
use Rattle.wap_world.specs.site.Asking.{Stays}
use Rattle.wap_world.proofs.SiteLemmas.Asking.{Stays-then}
use Rattle.wap_pages.specs.declared.fault.PageFault.TheVariants as page_fault
use Rattle.wap_pages.specs.Caches.{seen_over}
use Rattle.wap_context.specs.declared.saved.Revived.{Revived}
use Rattle.wap_context.specs.declared.saved.Revived.TheVariants as what
use Rattle.wap_context.specs.Saved.{asked_for, Revives}
use Rattle.wap_cli.specs.declared.status.Status.{Status}
use Rattle.wap_cli.specs.declared.status.Status.TheVariants.{Refused, StoreFault, NoMemory}
use Rattle.wap_cli.proofs.BrowseLemmas.Forgetting.{fresh_over}
use Rattle.wap_cli.specs.resume.Resuming.{LacksDeck, Fails, Unbegun}
use Rattle.wap_cli.specs.resume.inside.Loading.{IsCause, RefusesDeck}
use Rattle.wap_cli.proofs.ResumeLemmas.Reviving.{lacks_missing, lacks_deck}
use Rattle.wap_cli.proofs.ResumeLemmas.Going.{fails_as, fetched_stays}

-- a cache that keeps nothing
abbrev pub fresh : ℕ → Cache
fresh capacity = record { names = []; capacity = capacity }

module _ (parts : ContextParts) (store mid : StoreSeen) (cache : Cache) (capacity : ℕ)
    (source : SourceSeen) (sink : SinkSeen) where
  -- what the cache keeps says nothing of what stays
  forgets : Stays (seen_over store (fresh capacity)) (seen_over mid cache)
      → Stays (seen_over store (fresh capacity)) (seen_over mid (fresh capacity))
  forgets stays = record {
    known = stays.known;
    judge = stays.judge;
    capacity = refl;
    listings = stays.listings;
    faults = stays.faults;
    fetches = stays.fetches;
  }

  -- what is made of parts over these pages
  abbrev Made : Result Revived RunErr → Type 0
  Made result = Revives parts (seen_over store (fresh capacity)) (seen_over mid cache) result

  -- nothing is begun
  abbrev Ends : Status → Type 0
  Ends status = Unbegun (LacksDeck mid.known parts) (fresh_over store capacity source sink)
      (fresh_over mid capacity source sink) status

  -- where the store gave no deck
  ends_by : (status : Status) → Stays (seen_over store (fresh capacity)) (seen_over mid cache)
      → Fails (LacksDeck mid.known parts) store.faults mid.faults status → Ends status
  ends_by status stays ends =
      record { ends = ends; stays = forgets stays; unread = refl; unwritten = refl }

  -- the store failed
  pub fault_ends : Made (Err run_error.Store) → Ends StoreFault
  fault_ends made = ends_by StoreFault made.stays (Fails.store_fault (made.failed refl))

  -- memory ran out
  pub wants_ends : Made (Err run_error.NoMemory) → Ends NoMemory
  wants_ends made = ends_by NoMemory made.stays Fails.no_memory

  -- the page is missing
  pub missing_ends : Made (Ok what.Missing) → Ends (Refused page_fault.Missing)
  missing_ends made =
      ends_by (Refused page_fault.Missing) made.stays
      (Fails.refused page_fault.Missing (lacks_missing parts mid cache made.is) refl
      made.asks.steady)

  -- the page is no deck: it was fetched anew, and judged
  pub refused_ends : (name : List ℕ) (last : StoreSeen) (status : Status)
      → Made (Ok what.Refused) → asked_for parts ≡ (name, false) ∷ []
      → RefusesDeck name mid last status
      → Unbegun (LacksDeck last.known parts) (fresh_over store capacity source sink)
      (fresh_over last capacity source sink) status
  refused_ends name last status made asked refuses = record {
    ends = fails_as (IsCause last.known name) (LacksDeck last.known parts)
        (λ why cause. lacks_deck parts mid cache last.known refuses.fetched.known name why made.is
        asked cause)
        store.faults mid.faults last.faults made.asks.steady status refuses.none;
    stays = Stays-then (seen_over store (fresh capacity)) (seen_over mid (fresh capacity))
        (seen_over last (fresh capacity)) (forgets made.stays)
        (fetched_stays mid last capacity source sink refuses.fetched);
    unread = refl;
    unwritten = refl;
  }
