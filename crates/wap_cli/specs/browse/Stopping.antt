-- Where a session stops before its end. Of the keys that were given all but the last were handled
-- whole by then, and what is done before the first of them counts as a key. This project's own.
use Rattle.std.specs.Prelude.{◌≡◌, ℕ, ◌+◌, ◌<◌, ◌≤◌, List, ◌++◌, length, IfSome}
use Rattle.wap_devices.specs.Transfer.{Appends}
use Rattle.wap_base.specs.declared.key.Key.{Key}
use Rattle.wap_world.specs.Steps.{Step}
use Rattle.wap_cli.specs.browse.Outside.{Outside}
use Rattle.wap_cli.specs.browse.Handling.{first_lines, first_misses}

-- a count rose by more than the least number, and by no more than the most
abbrev pub RoseWithin : ℕ → ℕ → ℕ → ℕ → Type 0
RoseWithin least most before after = (before + least < after) × (after ≤ before + most)

-- all of the first bytes were written, and a prefix of what the others have after them
pub record WritesPart (before after first others : List ℕ) : Type 0 where
  pub part : List ℕ
  pub rest : List ℕ
  pub split : others ≡ first ++ (part ++ rest)
  pub wrote : Appends before after (first ++ part)

-- the store failed at the last of the keys that were given
pub record StopsAtStore (play : List Key → Step) (given : List Key) (old new : Outside)
    : Type 0 where
  -- nothing of it was written
  pub wrote : Appends old.sink.taken new.sink.taken
      (first_lines play given (length given))
  -- the store was asked for a page of it
  pub asked : IfSome old.pages.cache (λ cache. RoseWithin
      (first_misses play given cache (length given))
      (first_misses play given cache (length given + 1))
      old.pages.fetches new.pages.fetches)

-- the sink failed at the lines of the last
pub record StopsAtSink (play : List Key → Step) (given : List Key) (old new : Outside)
    : Type 0 where
  -- a prefix of them was written
  pub wrote : WritesPart old.sink.taken new.sink.taken
      (first_lines play given (length given))
      (first_lines play given (length given + 1))
  -- the store was asked for all its pages
  pub asked : IfSome old.pages.cache (λ cache. new.pages.fetches
      ≡ old.pages.fetches + first_misses play given cache (length given + 1))

-- memory ran out at the last, or as one more was read
pub record StopsForMemory (play : List Key → Step) (given : List Key) (old new : Outside)
    : Type 0 where
  -- so many were handled whole
  pub count : ℕ
  pub least : length given ≤ count
  pub most : count ≤ length given + 1
  -- nothing of the next was written
  pub wrote : Appends old.sink.taken new.sink.taken (first_lines play given count)
