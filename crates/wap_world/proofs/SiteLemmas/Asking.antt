-- What is seen of pages before and after several calls.
use Rattle.std.proofs.Common.{◌≡◌, ℕ, ◌+◌, List, [], ◌++◌, Option, Some, None}
use Rattle.std.proofs.Common.{refl, sym, ap, subst, ◌∙◌, arith}
use Rattle.std.specs.Prelude.{IfSome, option_map}
use Rattle.wap_base.specs.Contents.{Contents}
use Rattle.wap_world.specs.site.Misses.{Cache, Asked, after_all, misses}
use Rattle.wap_devices.proofs.Telling.{grew_nothing, grew_then, agrees_before}
use Rattle.wap_world.specs.site.Pages.{Pages}
use Rattle.wap_world.specs.site.Asking.{Seen, MayBe, Stays, Asks}
use Rattle.wap_world.proofs.SiteLemmas.Counts.{after_all-then, misses-then}

-- ---- what a cache keeps

cache-then : (asked others : List Asked) (x y z : Option Cache) → y ≡ option_map (after_all asked) x
    → z ≡ option_map (after_all others) y → z ≡ option_map (after_all (asked ++ others)) x
cache-then asked others None y z first second = second ∙ ap (option_map (after_all others)) first
cache-then asked others (Some cache) y z first second =
    second ∙ ap (option_map (after_all others)) first
    ∙ ap Some (sym (after_all-then asked others cache))

cache-nil : (x : Option Cache) → x ≡ option_map (after_all []) x
cache-nil None = refl
cache-nil (Some cache) = refl

-- ---- how often a store was asked

-- what holds of a known cache holds of one after some pages
told : (P : Cache → Type 0) (asked : List Asked) (cache : Cache) (y : Option Cache)
    → y ≡ option_map (after_all asked) (Some cache) → IfSome y P → P (after_all asked cache)
told P asked cache y is so = subst (λ (told : Option Cache). IfSome told P) is so

abbrev Counts : List Asked → Option Cache → ℕ → ℕ → Type 0
Counts asked x before after = IfSome x (λ cache. after ≡ before + misses asked cache)

counts-then : (asked others : List Asked) (x y : Option Cache) (k m n : ℕ)
    → y ≡ option_map (after_all asked) x
    → Counts asked x k m → Counts others y m n → Counts (asked ++ others) x k n
counts-then asked others None y k m n is first second = tt
counts-then asked others (Some cache) y k m n is first second =
    let more = told (λ cache. n ≡ m + misses others cache) asked cache y is second in
    omega (arith, first, more, misses-then asked others cache)

counts-nil : (x : Option Cache) (k : ℕ) → Counts [] x k k
counts-nil None k = tt
counts-nil (Some cache) k = omega arith

-- ---- what is seen

pub Asks-nil : (x : Seen) → Asks [] x x
Asks-nil x = record {
  cache = cache-nil x.cache;
  fetches = counts-nil x.cache x.fetches;
  steady = refl;
}

pub Asks-then : (asked others : List Asked) (x y z : Seen) → Asks asked x y → Asks others y z
    → Asks (asked ++ others) x z
Asks-then asked others x y z first second = record {
  cache = cache-then asked others x.cache y.cache z.cache first.cache second.cache;
  fetches =
      counts-then asked others x.cache y.cache x.fetches y.fetches z.fetches first.cache
      first.fetches second.fetches;
  steady = second.steady ∙ first.steady;
}

pub Stays-same : (x : Seen) → Stays x x
Stays-same x = record {
  known = grew_nothing x.known x.known refl;
  judge = refl;
  capacity = refl;
  listings = refl;
  faults = omega arith;
  fetches = omega arith;
}

pub Stays-then : (x y z : Seen) → Stays x y → Stays y z → Stays x z
Stays-then x y z first second = record {
  known = grew_then x.known y.known z.known first.known second.known;
  judge = second.judge ∙ first.judge;
  capacity = second.capacity ∙ first.capacity;
  listings = second.listings ∙ first.listings;
  faults = let one = first.faults in let two = second.faults in omega arith;
  fetches = let one = first.fetches in let two = second.fetches in omega arith;
}

-- what pages may be after calls, they may have been before
pub Stays-may : (x y : Seen) → Stays x y → (pages : Pages) → MayBe y pages → MayBe x pages
Stays-may x y stays pages may = record {
  contents = may.contents;
  agrees = agrees_before x.known y.known stays.known may.contents may.agrees;
  are = may.are ∙ ap (λ (judge : Contents → Pages). judge may.contents) stays.judge;
}
