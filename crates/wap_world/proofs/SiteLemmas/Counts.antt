-- How caches and counts go on, in parts.
use Rattle.std.proofs.Common.{◌≡◌, ◌+◌, List, [], ◌∷◌, ◌++◌, refl, arith}
use Rattle.wap_world.specs.site.Misses.{Cache, Asked, after_asking, after_all, misses}

pub after_all-then : (asked others : List Asked) (cache : Cache)
    → after_all (asked ++ others) cache ≡ after_all others (after_all asked cache)
after_all-then [] others cache = refl
after_all-then (one ∷ asked) others cache = after_all-then asked others (after_asking one cache)

pub misses-then : (asked others : List Asked) (cache : Cache)
    → misses (asked ++ others) cache ≡ misses asked cache + misses others (after_all asked cache)
misses-then [] others cache = omega arith
misses-then (one ∷ asked) others cache =
    let so = misses-then asked others (after_asking one cache) in
    omega (arith, so)
