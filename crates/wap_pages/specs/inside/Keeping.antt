-- What calls do with the pages that are kept. This project's own.
use Rattle.std.specs.Prelude.{◌≡◌, ℕ, ◌<◌, ◌≤◌, Bool, true, false, List, length, Option, ◌+◌}
use Rattle.std.specs.Prelude.{None, IfSome, IfOk, OnOk, OnErr, IsErrOf, Result, Ok}
use Rattle.std.specs.List.{AllByRecursion}
use Rattle.std.specs.Map.{keys_of}
use Rattle.lru.specs.LruCache.{LruCache}
use Rattle.wap_base.specs.Contents.{Contents}
use Rattle.wap_base.specs.Texts.{AreDistinct}
use Rattle.wap_base.specs.declared.fault.NoMemory.{NoMemory}
use Rattle.wap_base.specs.declared.fault.RunErr.{RunErr}
use Rattle.wap_base.specs.declared.fault.RunErr.TheVariants.{Store}
use Rattle.wap_devices.specs.Stores.{Known, Agrees, StoreSeen, Grew}
use Rattle.wap_world.specs.site.Pages.{page_of}
use Rattle.wap_world.specs.site.Misses.{Cache, Asked, is_miss, after_asking}
use Rattle.wap_world.specs.declared.site.page.Page.{Page}
use Rattle.wap_pages.specs.Caches.{KeepsNoMore}
use Rattle.wap_pages.specs.Judged.{judged}

abbrev pub Kept : Type 0
Kept = LruCache (List ℕ) Page

abbrev pub names_in : Kept → Cache
names_in kept = record { names = keys_of kept.entries; capacity = kept.cap }

-- a page is the one of its name, whatever the store may hold
abbrev pub IsRight : Known → List ℕ → Page → Type 0
IsRight known name page =
    (contents : Contents) → Agrees known contents → page ≡ page_of name (judged contents)

abbrev pub IsRightEntry : Known → List ℕ × Page → Type 0
IsRightEntry known entry = IsRight known entry.0 entry.1

-- what holds of the pages that are kept
pub record IsSound (known : Known) (kept : Kept) : Type 0 where
  pub right : AllByRecursion (IsRightEntry known) kept.entries
  pub distinct : AreDistinct (keys_of kept.entries)
  pub few : length kept.entries ≤ kept.cap
  pub some : 0 < kept.cap

-- a look-up among the pages that are kept, unless the page is to be fresh
pub record LooksUp (known : Known) (asked : Asked) (before after : Kept)
    (result : Result (Option Page) NoMemory) : Type 0 where
  pub sound : IsSound known after
  pub capacity : after.cap ≡ before.cap
  pub right : IfOk result (λ found. IfSome found (IsRight known asked.0))
  pub hit : IfOk result (λ found. IfSome found (λ _. is_miss asked (names_in before) ≡ false))
  pub first : IfOk result
      (λ found. IfSome found (λ _. names_in after ≡ after_asking asked (names_in before)))
  pub miss : ◌≡◌ {A = Result (Option Page) NoMemory} result (Ok None)
      → is_miss asked (names_in before) ≡ true
  pub same : ◌≡◌ {A = Result (Option Page) NoMemory} result (Ok None) → after ≡ before
  pub no_more : KeepsNoMore (names_in before) (names_in after)

-- a page is kept
pub record Keeps (known : Known) (name : List ℕ) (before after : Kept)
    (result : Result (Unit {0}) NoMemory) : Type 0 where
  pub sound : IsSound known after
  pub capacity : after.cap ≡ before.cap
  pub first :
      OnOk result ((fresh : Bool) → names_in after ≡ after_asking (name, fresh) (names_in before))
  pub no_more : OnErr result (after ≡ before)

-- a store is asked for a page, which is judged: whatever comes of that
pub record AsksStore (before after : StoreSeen) (result : Result Page RunErr) : Type 0 where
  pub kept : Grew before.known after.known
  pub counted : after.fetches ≡ before.fetches + 1
  pub listings : after.listings ≡ before.listings
  pub faults : before.faults ≤ after.faults
  pub failed : IsErrOf result Store → before.faults < after.faults
  pub steady : OnOk result (after.faults ≡ before.faults)
