-- The first of the keys that are played: what is written for them, and how often the store is
-- asked. What is done before the first of them, as a URL that is opened, counts as a key. This
-- project's own.
use Rattle.std.specs.Prelude.{◌≡◌, ℕ, zero, suc, List, [], take, IfSome, ◌+◌}
use Rattle.wap_devices.specs.Transfer.{Appends}
use Rattle.wap_base.specs.declared.key.Key.{Key}
use Rattle.wap_world.specs.site.Misses.{Asked, Cache, misses}
use Rattle.wap_layout.specs.buffer.Written.{lines_bytes}
use Rattle.wap_world.specs.Steps.{Step}
use Rattle.wap_world.specs.Sessions.{shown_by}
use Rattle.wap_cli.specs.browse.Outside.{Outside}

-- the lines of a step, as they are written
abbrev pub bytes_of : Step → List ℕ
bytes_of step = lines_bytes (shown_by step)

-- the lines of nothing, then of what is done before the first key, then with a key more each
abbrev pub first_lines : (List Key → Step) → List Key → ℕ → List ℕ
first_lines play keys zero = []
first_lines play keys (suc count) = bytes_of (play (take count keys))

-- the pages that are asked for by then
abbrev pub first_asked : (List Key → Step) → List Key → ℕ → List Asked
first_asked play keys zero = []
first_asked play keys (suc count) = (play (take count keys)).asked

-- and how often the store is: for what the cache doesn't keep
abbrev pub first_misses : (List Key → Step) → List Key → Cache → ℕ → ℕ
first_misses play keys cache count = misses (first_asked play keys count) cache

-- these keys were played to their end
pub record IsPlayed (play : List Key → Step) (keys : List Key) (old new : Outside) : Type 0 where
  -- exactly the lines of their step were written
  pub wrote : Appends old.sink.taken new.sink.taken (bytes_of (play keys))
  -- and the store was asked exactly for what the cache didn't keep
  pub asked : IfSome old.pages.cache (λ cache. new.pages.fetches
      ≡ old.pages.fetches + misses (play keys).asked cache)
