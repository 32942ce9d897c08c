-- What is seen of pages that are asked for. This project's own.
use Rattle.std.specs.Prelude.{◌≡◌, ℕ, ◌+◌, ◌<◌, ◌≤◌, List, [], Option, None, IfSome, option_map}
use Rattle.wap_base.specs.Contents.{Contents}
use Rattle.wap_devices.specs.Stores.{Known, Held, Agrees, Grew}
use Rattle.wap_world.specs.site.Pages.{Pages}
use Rattle.wap_world.specs.site.Misses.{Cache, Asked, after_all, misses}

pub record Seen : Type 0 where
  -- what is known of the bytes below the pages, and which pages such bytes are judged to be
  pub known : Known
  pub judge : Contents → Pages
  -- what a cache keeps, where it is known
  pub cache : Option Cache
  -- how often the store below them failed, was asked for a page, and was asked for its names
  pub faults : ℕ
  pub fetches : ℕ
  pub listings : ℕ

-- what is seen of pages in memory: no bytes stand below them, so they can be no others, and there
-- is neither a cache nor a store that could fail or be asked
abbrev pub in_memory : Pages → Seen
in_memory pages = record {
  known = Held [];
  judge = λ _. pages;
  cache = None;
  faults = 0;
  fetches = 0;
  listings = 0;
}

-- these may be the pages: bytes that may be those below them are judged so
pub record MayBe (seen : Seen) (pages : Pages) : Type 0 where
  pub contents : Contents
  pub agrees : Agrees seen.known contents
  pub are : pages ≡ seen.judge contents

-- a count rose, by so many at most
abbrev pub RoseBy : ℕ → ℕ → ℕ → Type 0
RoseBy most before after = (before < after) × (after ≤ before + most)

-- what no call changes, and what only grows
pub record Stays (before after : Seen) : Type 0 where
  pub known : Grew before.known after.known
  pub judge : after.judge ≡ before.judge
  pub capacity : option_map (λ cache. cache.capacity) after.cache
      ≡ option_map (λ cache. cache.capacity) before.cache
  pub listings : after.listings ≡ before.listings
  pub faults : before.faults ≤ after.faults
  pub fetches : before.fetches ≤ after.fetches

-- these were asked for, and none failed
pub record Asks (asked : List Asked) (before after : Seen) : Type 0 where
  pub cache : after.cache ≡ option_map (after_all asked) before.cache
  pub fetches : IfSome before.cache
      (λ cache. after.fetches ≡ before.fetches + misses asked cache)
  pub steady : after.faults ≡ before.faults

-- the store failed at one of these
pub record Fails (asked : List Asked) (before after : Seen) : Type 0 where
  pub rose : before.faults < after.faults
  pub fetches : IfSome before.cache
      (λ cache. RoseBy (misses asked cache) before.fetches after.fetches)
