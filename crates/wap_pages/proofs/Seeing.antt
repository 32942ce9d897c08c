-- What is seen of a cache before and after one page is asked for.
use Rattle.std.specs.Prelude.{◌<◌}
use Rattle.std.proofs.Common.{◌≡◌, ℕ, ◌+◌, Bool, true, false, if◌then◌else◌, List, []}
use Rattle.std.proofs.Common.{◌∷◌, Some, Result, refl, sym, ap, subst, ◌∙◌, arith}
use Rattle.wap_base.specs.declared.fault.RunErr.{RunErr}
use Rattle.wap_devices.specs.Stores.{StoreSeen}
use Rattle.wap_devices.proofs.Telling.{grew_nothing}
use Rattle.wap_world.specs.site.Pages.{Pages, page_of, AreSitePages}
use Rattle.wap_world.specs.site.Misses.{Cache, Asked, is_miss, after_asking, misses}
use Rattle.wap_world.specs.site.Asking.{Seen, MayBe, Stays, Asks, Fails}
use Rattle.wap_world.specs.declared.site.page.Page.{Page}
use Rattle.wap_pages.specs.Caches.{seen_over}
use Rattle.wap_pages.specs.inside.Keeping.{IsRight, AsksStore}
use Rattle.wap_pages.proofs.Judgements.{judged_pages_fit}

none_missed : (asked : Asked) (cache : Cache) → is_miss asked cache ≡ false
    → misses (asked ∷ []) cache ≡ 0
none_missed asked cache is = ap (λ (b : Bool). (if b then 1 else 0) + 0) is

one_missed : (asked : Asked) (cache : Cache) → is_miss asked cache ≡ true
    → misses (asked ∷ []) cache ≡ 1
one_missed asked cache is = ap (λ (b : Bool). (if b then 1 else 0) + 0) is

module _ (store : StoreSeen) (cache : Cache) (pages : Pages)
    (may : MayBe (seen_over store cache) pages) where
  -- a right page is that of what may be seen
  pub right_seen : (name : List ℕ) (page : Page) → IsRight store.known name page
      → page ≡ page_of name pages
  right_seen name page right = right may.contents may.agrees ∙ sym (ap (page_of name) may.are)

  -- the pages that may be seen are those of a site
  pub site_seen : AreSitePages pages
  site_seen =
      subst AreSitePages (sym may.are) (judged_pages_fit may.contents may.agrees.distinct)

module _ (store : StoreSeen) (before after : Cache) where
  pub hit_stays : after.capacity ≡ before.capacity
      → Stays (seen_over store before)
      (seen_over store after)
  hit_stays same = record {
    known = grew_nothing store.known store.known refl;
    judge = refl;
    capacity = ap Some same;
    listings = refl;
    faults = omega arith;
    fetches = omega arith;
  }

  pub hit_asks : (asked : Asked) → is_miss asked before ≡ false → after ≡ after_asking asked before
      → Asks (asked ∷ []) (seen_over store before)
      (seen_over store after)
  hit_asks asked hit first = record {
    cache = ap Some first;
    fetches = let none = none_missed asked before hit in omega (arith, none);
    steady = refl;
  }

module _ (old : StoreSeen) (before : Cache) (new : StoreSeen) (after : Cache) where
  abbrev Old : Seen
  Old = seen_over old before

  abbrev New : Seen
  New = seen_over new after

  pub miss_stays : {result : Result Page RunErr} → AsksStore old new result
      → after.capacity ≡ before.capacity → Stays Old New
  miss_stays asks same = record {
    known = asks.kept;
    judge = refl;
    capacity = ap Some same;
    listings = asks.listings;
    faults = asks.faults;
    fetches = let counted = asks.counted in omega (arith, counted);
  }

  pub miss_asks : (asked : Asked) → is_miss asked before ≡ true → after ≡ after_asking asked before
      → new.fetches ≡ old.fetches + 1 → new.faults ≡ old.faults → Asks (asked ∷ []) Old New
  miss_asks asked miss first count steady = record {
    cache = ap Some first;
    fetches = let one = one_missed asked before miss in omega (arith, count, one);
    steady = steady;
  }

  pub miss_fails : (asked : Asked) → is_miss asked before ≡ true → new.fetches ≡ old.fetches + 1
      → old.faults < new.faults → Fails (asked ∷ []) Old New
  miss_fails asked miss count rose = record {
    rose = rose;
    fetches =
        let one = one_missed asked before miss in
        (omega (arith, count), omega (arith, count, one));
  }
