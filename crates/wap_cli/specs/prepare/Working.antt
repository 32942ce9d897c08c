-- What work on all pages of a folder comes to: a text, or how it ends without one. This project's
-- own.
use Rattle.std.specs.Prelude.{◌≡◌, ◌⊎◌, ℕ, ◌≤◌, List, length, ◌<◌, ◌+◌}
use Rattle.wap_base.specs.Contents.{Contents}
use Rattle.wap_devices.specs.Stores.{StoreSeen, Agrees, Grew}
use Rattle.wap_devices.specs.Sinks.{SinkSeen}
use Rattle.wap_cli.specs.declared.status.Status.{Status}
use Rattle.wap_cli.specs.declared.status.Status.TheVariants.{StoreFault, NoMemory}
use Rattle.wap_cli.specs.Writing.{Writes}

-- how it ends, with each status, and with no other
pub data WorksTo (Tells : (List ℕ → Type 0) → Type 0) (store store_after : StoreSeen)
    (sink sink_after : SinkSeen) : Status → Type 0 where
  -- the store answered for all, and the text was to be written
  answered : (status : Status) → store_after.faults ≡ store.faults
      → store_after.listings ≡ store.listings + 1 → Writes Tells sink sink_after status
      → WorksTo Tells store store_after sink sink_after status
  -- it failed, and nothing was written
  store_fault : store.faults < store_after.faults
      → store_after.listings ≡ store.listings + 1 → sink_after ≡ sink
      → WorksTo Tells store store_after sink sink_after StoreFault
  -- memory ran out, and nothing was written
  no_memory : sink_after ≡ sink → WorksTo Tells store store_after sink sink_after NoMemory

-- the store is asked for no more pages than there may be
abbrev pub AsksWithin : StoreSeen → StoreSeen → Type 0
AsksWithin before after = (before.fetches ≤ after.fetches)
    × ((pages : Contents) → Agrees after.known pages
    → after.fetches ≤ before.fetches + length pages)

-- the store and the sink, before and after, and how it ended. What there is to be written is a text
-- of which Tells says what holds of it: for each fact, that it holds of the text.
pub record WorksOnAll (Tells : (List ℕ → Type 0) → Type 0) (store store_after : StoreSeen)
    (sink sink_after : SinkSeen) (status : Status) : Type 0 where
  pub ends : WorksTo Tells store store_after sink sink_after status
  -- the names are asked for once at most, and each page is
  pub once : (store_after.listings ≡ store.listings)
      ⊎ (store_after.listings ≡ store.listings + 1)
  pub asked : AsksWithin store store_after
  -- what is known of the pages only grows, however it ends
  pub kept : Grew store.known store_after.known
  pub counts : store.faults ≤ store_after.faults
