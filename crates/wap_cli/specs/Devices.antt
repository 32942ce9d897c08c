-- The store, the source and the sink of a run at a moment. This project's own.
use Rattle.std.specs.Prelude.{ℕ, [], Some}
use Rattle.wap_devices.specs.Stores.{StoreSeen}
use Rattle.wap_devices.specs.Sources.{SourceSeen}
use Rattle.wap_devices.specs.Sinks.{SinkSeen}
use Rattle.wap_cli.specs.browse.Outside.{Outside}

-- where pages come from, where keys come from, and where lines are written to
pub record Devices : Type 0 where
  pub store : StoreSeen
  pub source : SourceSeen
  pub sink : SinkSeen

-- as a browser sees them whose cache has room for so many pages, and keeps none yet; what contents
-- are judged to be isn't looked at
abbrev pub uncached : ℕ → Devices → Outside
uncached capacity devices = record {
  pages = record {
    known = devices.store.known;
    judge = λ contents. [];
    cache = Some (record { names = []; capacity = capacity });
    faults = devices.store.faults;
    fetches = devices.store.fetches;
    listings = devices.store.listings;
  };
  source = devices.source;
  sink = devices.sink;
}
