-- Pages that were asked for, and then others until the store failed at one.
use Rattle.std.proofs.Common.{◌≡◌, ℕ, ◌+◌, ◌<◌, List, ◌++◌, Option, Some, None, subst, arith}
use Rattle.std.specs.Prelude.{IfSome, option_map}
use Rattle.wap_world.specs.site.Misses.{Cache, Asked, after_all, misses}
use Rattle.wap_world.specs.site.Asking.{Seen, RoseBy, Asks, Fails}
use Rattle.wap_world.proofs.SiteLemmas.Counts.{misses-then}

-- more were to be asked for
more_by : (asked others : List Asked) (cache : Option Cache) (k l : ℕ)
    → IfSome cache (λ one. RoseBy (misses asked one) k l)
    → IfSome cache (λ one. RoseBy (misses (asked ++ others) one) k l)
more_by asked others None k l so = tt
more_by asked others (Some cache) k l so =
    (so.0, omega (arith, so.1, misses-then asked others cache))

pub Fails-more : (asked others : List Asked) (x y : Seen) → Fails asked x y
    → Fails (asked ++ others) x y
Fails-more asked others x y so = record {
  rose = so.rose;
  fetches = more_by asked others x.cache x.fetches y.fetches so.fetches;
}

then_by : (asked others : List Asked) (x y : Option Cache) (k l o : ℕ)
    → y ≡ option_map (after_all asked) x → IfSome x (λ cache. l ≡ k + misses asked cache)
    → IfSome y (λ cache. RoseBy (misses others cache) l o)
    → IfSome x (λ cache. RoseBy (misses (asked ++ others) cache) k o)
then_by asked others None y k l o is first second = tt
then_by asked others (Some cache) y k l o is first second =
    let rose = subst (λ (told : Option Cache). IfSome told (λ one. RoseBy (misses others one) l o))
    is second in
    (omega (arith, first, rose.0), omega (arith, first, rose.1, misses-then asked others cache))

-- some were asked for, and then the store failed at one of the others
pub Asks-fails : (asked others : List Asked) (x y z : Seen) → Asks asked x y → Fails others y z
    → Fails (asked ++ others) x z
Asks-fails asked others x y z first second = record {
  rose = subst (λ (count : ℕ). count < z.faults) first.steady second.rose;
  fetches = then_by asked others x.cache y.cache x.fetches y.fetches z.fetches first.cache
      first.fetches second.fetches;
}
