-- How work on all pages of a folder ends.
use Rattle.std.proofs.Common.{◌≡◌, ℕ, ◌≤◌, List, [], ◌∷◌, Ok, Err, Result, inl, inr, refl}
use Rattle.std.proofs.Common.{subst, ◌∙◌, arith}
use Rattle.std.specs.Prelude.{length, ◌<◌}
use Rattle.std.specs.List.Sorted.{IsPermutation}
use Rattle.std.proofs.lemmas.List.Sorted.{length_permutation}
use Rattle.std.proofs.lemmas.Map.Entries.{length-keys_of}
use Rattle.wap_base.specs.Contents.{Contents, names_of}
use Rattle.wap_devices.specs.Stores.{StoreSeen, Grew, Lists}
use Rattle.wap_devices.specs.Sinks.{SinkSeen}
use Rattle.wap_devices.proofs.Telling.{grew_nothing, grew_then, agrees_before}
use Rattle.wap_devices.specs.declared.store.StoreErr.{StoreErr}
use Rattle.wap_devices.specs.declared.store.StoreErr.TheVariants as store_error
use Rattle.wap_cli.specs.declared.status.Status.{Status}
use Rattle.wap_cli.specs.declared.status.Status.TheVariants.{StoreFault, NoMemory}
use Rattle.wap_cli.specs.prepare.Fetching.{AsksForAll}
use Rattle.wap_cli.specs.prepare.Working.{WorksTo, WorksOnAll, AsksWithin}
use Rattle.wap_cli.specs.Writing.{PutsTo}
use Rattle.wap_cli.proofs.Writing.{writes_as}

-- there are as many pages as names
as_many : (pages : Contents) (names : List (List ℕ)) → IsPermutation (names_of pages) names
    → length names ≡ length pages
as_many pages names all =
    let same = length_permutation (names_of pages) names all in
    let keys = length-keys_of pages in
    omega (arith, same, keys)

-- no page was asked for
pub none_asked : (before after : StoreSeen) → after.fetches ≡ before.fetches
    → AsksWithin before after
none_asked before after is = (omega (arith, is), λ pages agrees. omega (arith, is))

-- what is said of one text is said of another
pub works_as : (Tells TellsToo : (List ℕ → Type 0) → Type 0)
    → ((Wrote : List ℕ → Type 0) → Tells Wrote → TellsToo Wrote) → (store store_after : StoreSeen)
    (sink sink_after : SinkSeen) (status : Status)
    → WorksOnAll Tells store store_after sink sink_after status
    → WorksOnAll TellsToo store store_after sink sink_after status
works_as Tells TellsToo tell store store_after sink sink_after status so = record {
  ends = by status so.ends;
  once = so.once;
  asked = so.asked;
  kept = so.kept;
  counts = so.counts;
}
  where
    by : (status : Status) → WorksTo Tells store store_after sink sink_after status
        → WorksTo TellsToo store store_after sink sink_after status
    by status (WorksTo.answered one steady listings writes) =
        WorksTo.answered one steady listings
        (writes_as Tells TellsToo tell sink sink_after one writes)
    by status (WorksTo.store_fault rose listings same) = WorksTo.store_fault rose listings same
    by status (WorksTo.no_memory same) = WorksTo.no_memory same

-- memory ran out before the store was asked
pub nothing_done : (Tells : (List ℕ → Type 0) → Type 0) (store : StoreSeen) (sink : SinkSeen)
    → WorksOnAll Tells store store sink sink NoMemory
nothing_done Tells store sink = record {
  ends = WorksTo.no_memory refl;
  once = inl refl;
  asked = none_asked store store refl;
  kept = grew_nothing store.known store.known refl;
  counts = omega arith;
}

module _ (Tells : (List ℕ → Type 0) → Type 0) {A : Type 0} (names_in : A → List (List ℕ))
    (store listed after : StoreSeen) (sink sink_after : SinkSeen) where
  -- the store gave no names
  unlisted : (status : Status) (fault : StoreErr) → Lists names_in store listed (Err fault)
      → WorksTo Tells store listed sink sink status
      → WorksOnAll Tells store listed sink sink status
  unlisted status fault lists ends = record {
    ends = ends;
    once = inr lists.listings;
    asked = none_asked store listed lists.fetches;
    kept = grew_nothing store.known listed.known lists.asked.untold;
    counts = lists.asked.counts;
  }

  -- it failed when it was asked for them
  pub list_fails : Lists names_in store listed (Err store_error.Failed)
      → WorksOnAll Tells store listed sink sink StoreFault
  list_fails lists =
      unlisted StoreFault store_error.Failed lists
      (WorksTo.store_fault (lists.asked.failed refl) lists.listings refl)

  -- memory ran out for the names
  pub list_no_memory : Lists names_in store listed (Err store_error.NoMemory)
      → WorksOnAll Tells store listed sink sink NoMemory
  list_no_memory lists =
      unlisted NoMemory store_error.NoMemory lists (WorksTo.no_memory refl)

  module _ (names : A) (lists : Lists names_in store listed (Ok names)) where
    -- it gave the names, and was asked for the pages
    listed_by : {B : Type 0} {result : Result B StoreErr} (status : Status) (last : SinkSeen)
        → AsksForAll (length (names_in names)) listed after result
        → WorksTo Tells store after sink last status
        → WorksOnAll Tells store after sink last status
    listed_by status last asks ends =
        let listing : Grew store.known listed.known =
        record { answers = []; lists = names_in names ∷ []; is = lists.told } in
        let first = lists.asked.counts in
        let second = asks.counts in
        let listing_of = lists.fetches in
        let more = asks.more in
        let few = asks.few in
        record {
          ends = ends;
          once = inr (asks.listings ∙ lists.listings);
          asked = (
            omega (arith, listing_of, more),
            λ pages agrees.
                let many =
                as_many pages (names_in names)
                (lists.names pages
                (agrees_before listed.known after.known asks.known pages agrees)) in
                omega (arith, listing_of, few, many),
          );
          kept = grew_then store.known listed.known after.known listing asks.known;
          counts = omega (arith, first, second);
        }

    -- it failed at a page
    pub page_fails : {B : Type 0}
        → AsksForAll {A = B} (length (names_in names)) listed after (Err store_error.Failed)
        → WorksOnAll Tells store after sink sink StoreFault
    page_fails asks =
        listed_by StoreFault sink asks
        (WorksTo.store_fault
        (subst (λ (faults : ℕ). faults < after.faults) lists.asked.steady (asks.failed refl))
        (asks.listings ∙ lists.listings) refl)

    -- memory ran out for the pages, or for what is done with them
    pub no_memory : {B : Type 0}
        → AsksForAll {A = B} (length (names_in names)) listed after (Err store_error.NoMemory)
        → WorksOnAll Tells store after sink sink NoMemory
    no_memory asks = listed_by NoMemory sink asks (WorksTo.no_memory refl)

    -- the text was written, or not
    pub ended : {B : Type 0} (text : List ℕ)
        → ((Wrote : List ℕ → Type 0) → Wrote text → Tells Wrote) → (worked : B)
        → AsksForAll {A = B} (length (names_in names)) listed after (Ok worked) → (status : Status)
        → PutsTo text sink sink_after status → WorksOnAll Tells store after sink sink_after status
    ended text tells worked asks status puts =
        listed_by status sink_after asks
        (WorksTo.answered status (asks.steady ∙ lists.asked.steady)
        (asks.listings ∙ lists.listings)
        (writes_as (λ Wrote. Wrote text) Tells tells sink sink_after status puts))
