-- Pages of a store, of which some are kept. This project's own.
use Rattle.std.specs.Prelude.{◌≡◌, ℕ, true, List, Some}
use Rattle.std.specs.Map.{keys_of}
use Rattle.wap_devices.specs.Stores.{StoreSeen}
use Rattle.wap_world.specs.declared.site.page.Page.{Page}
use Rattle.wap_world.specs.site.Misses.{Cache, is_kept}
use Rattle.wap_world.specs.site.Asking.{Seen}
use Rattle.wap_pages.specs.Judged.{judged}

-- the store, the pages that are kept, the one that was asked for last first, and how many are at
-- most
pub record CachedPages (S : Type 0) : Type 0 where
  pub store : S
  pub kept : List (List ℕ × Page)
  pub capacity : ℕ

-- what is seen of what is kept
abbrev pub cache_of : {S : Type 0} → CachedPages S → Cache
cache_of cached = record { names = keys_of cached.kept; capacity = cached.capacity }

-- what is seen of them: what is known of the store's pages, how they are judged, and its counts
abbrev pub seen_over : StoreSeen → Cache → Seen
seen_over store cache = record {
  known = store.known;
  judge = judged;
  cache = Some cache;
  faults = store.faults;
  fetches = store.fetches;
  listings = store.listings;
}

-- all names that are kept now were kept before
abbrev pub KeepsNoMore : Cache → Cache → Type 0
KeepsNoMore before after = (name : List ℕ) → is_kept name after ≡ true → is_kept name before ≡ true
