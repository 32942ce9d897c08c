-- How often a store is asked, up to the key at which it fails.
use Rattle.std.proofs.Common.{◌≡◌, ◌+◌, List, ◌++◌, Option, Some, ap, ◌∙◌, arith}
use Rattle.std.specs.Prelude.{IfSome, option_map}
use Rattle.wap_world.specs.site.Misses.{Cache, Asked, after_all, misses}
use Rattle.wap_world.specs.site.Asking.{Seen, RoseBy, Asks, Fails}
use Rattle.wap_world.proofs.SiteLemmas.Counts.{misses-then}
use Rattle.wap_cli.specs.browse.Stopping.{RoseWithin}
use Rattle.wap_cli.proofs.BrowseLemmas.Optional.{if_some, some_fact}

-- a store that fails at the last pages is asked for all before these
pub missed_after : (asked others all : List Asked) (x y z : Seen) → all ≡ asked ++ others
    → Asks asked x y → Fails others y z
    → IfSome x.cache
    (λ cache. RoseWithin (misses asked cache) (misses all cache) x.fetches z.fetches)
missed_after asked others all x y z is asks fails = if_some x.cache _ (λ cache known.
    let kept : y.cache ≡ Some (after_all asked cache) =
    asks.cache ∙ ap (λ (c : Option Cache). option_map (after_all asked) c) known in
    let first = some_fact x.cache
    (λ c. y.fetches ≡ x.fetches + misses asked c) cache known asks.fetches in
    let rose = some_fact y.cache
    (λ c. RoseBy (misses others c) y.fetches z.fetches) (after_all asked cache) kept fails.fetches
    in
    let both = ap (λ (l : List Asked). misses l cache) is ∙ misses-then asked others cache in
    (omega (arith, first, rose.0), omega (arith, first, rose.1, both)))
