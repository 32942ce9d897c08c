-- What is said of browsing over some pages is said over others, over which keys come to the same;
-- and nothing is said of what a cache keeps afterwards, nor of what contents are judged to be.
use Rattle.std.proofs.Common.{◌≡◌, ℕ, List, [], Option, Some, refl, sym, subst}
use Rattle.std.specs.Prelude.{Bool, true, false, option_map}
use Rattle.wap_base.specs.Contents.{Contents}
use Rattle.wap_devices.specs.Stores.{StoreSeen}
use Rattle.wap_devices.specs.Sources.{SourceSeen}
use Rattle.wap_devices.specs.Sinks.{SinkSeen}
use Rattle.wap_devices.specs.Transfer.{AppendsPrefix}
use Rattle.wap_base.specs.declared.key.Key.{Key}
use Rattle.wap_keys.specs.declared.ending.Ending.{Ending}
use Rattle.wap_keys.specs.declared.ending.Ending.TheVariants as way
use Rattle.wap_keys.specs.Lines.{keys_of}
use Rattle.wap_world.specs.site.Pages.{Pages as JudgedPages}
use Rattle.wap_world.specs.site.Misses.{Cache}
use Rattle.wap_world.specs.site.Asking.{Seen, MayBe}
use Rattle.wap_world.specs.Steps.{Step}
use Rattle.wap_cli.specs.declared.status.Status.{Status}
use Rattle.wap_pages.specs.Caches.{CachedPages, cache_of, seen_over}
use Rattle.wap_cli.specs.browse.Outside.{Outside}
use Rattle.wap_cli.specs.browse.Plays.{Play, AreUnitPages}
use Rattle.wap_cli.specs.browse.Handling.{bytes_of, IsPlayed}
use Rattle.wap_cli.specs.browse.Stopping.{StopsAtStore, StopsAtSink, StopsForMemory}
use Rattle.wap_cli.specs.browse.Headline.{ArePlayed, AreAll, AtEnd, Ends, Browses, BrowsesSeen}

-- the outside, with another cache
abbrev pub with_cache : Option Cache → Outside → Outside
with_cache cache new = record new { pages = record new.pages { cache = cache } }

-- the outside, with other judgements
abbrev judged_so : (Contents → JudgedPages) → Outside → Outside
judged_so judge outside = record outside { pages = record outside.pages { judge = judge } }

-- with none
abbrev pub unjudged : Outside → Outside
unjudged = judged_so (λ contents. [])

-- with any cache there may be the same pages
pub may_too : (seen : Seen) (cache : Option Cache) (pages : JudgedPages)
    → MayBe (record seen { cache = cache }) pages → MayBe seen pages
may_too seen cache pages may =
    record { contents = may.contents; agrees = may.agrees; are = may.are }

-- over other pages, where keys come to the same
module _ {P Q : Type 0} (Are : P → Type 0) (play : P → List Key → Step) (AreToo : Q → Type 0)
    (play_too : Q → List Key → Step)
    (same : (q : Q) → AreToo q → (p : P) × Are p × (play p ≡ play_too q)) (old new : Outside)
    (cache : Option Cache) (one other : Contents → JudgedPages) (alike : other ≡ one) where
  abbrev first : Outside
  first = judged_so one old

  abbrev last : Outside
  last = judged_so other (with_cache cache new)

  -- what holds over all of the first holds over the others
  over : (Fact : (List Key → Step) → Type 0) → ((p : P) → Are p → Fact (play p)) → (q : Q)
      → AreToo q → Fact (play_too q)
  over Fact so q are = let found = same q are in subst Fact found.2 (so found.0 found.1)

  module _ (taken : List ℕ) (given : List Key) where
    -- keys that were played
    played_too : ArePlayed Are play old new taken given
        → ArePlayed AreToo play_too first last taken given
    played_too so = record {
      played = over (λ of. IsPlayed of given first last) (λ pages are.
          let one = so.played pages are in record { wrote = one.wrote; asked = one.asked });
      store = so.store;
      sink = so.sink;
    }

    -- keys that were read to their end
    all_too : (by : Ending) → AreAll Are play old new taken given by
        → AreAll AreToo play_too first last taken given by
    all_too by so = record { all = so.all; played = played_too so.played; source = so.source }

    end_too : (is_open : Bool) → AtEnd Are play old new taken given is_open
        → AtEnd AreToo play_too first last taken given is_open
    end_too is_open so = record {
      all = all_too way.End so.all;
      whole = so.whole;
      leaves = over (λ of. (of given).is_open ≡ is_open) so.leaves;
    }

    -- however it ended
    ends_too : (status : Status) → Ends Are play old new taken given status
        → Ends AreToo play_too first last taken given status
    ends_too status (Ends.done so) = Ends.done (end_too false so)
    ends_too status (Ends.open_dialog so) = Ends.open_dialog (end_too true so)
    ends_too status (Ends.bad_key line fault of_line so) =
        Ends.bad_key line fault of_line (all_too (way.BadKey line fault) so)
    ends_too status (Ends.too_many_keys many so) =
        Ends.too_many_keys many (all_too way.TooManyKeys so)
    ends_too status (Ends.read_fault rose read so) = Ends.read_fault rose read (played_too so)
    ends_too status (Ends.store_fault rose source sink at_last so) =
        Ends.store_fault rose source sink at_last
        (over (λ of. StopsAtStore of given first last) (λ pages are.
        let one = so pages are in record { wrote = one.wrote; asked = one.asked }))
    ends_too status (Ends.write_fault rose source store at_last so) =
        Ends.write_fault rose source store at_last
        (over (λ of. StopsAtSink of given first last) (λ pages are.
        let one = so pages are in record { wrote = one.wrote; asked = one.asked }))
    ends_too status (Ends.no_memory source sink so) =
        Ends.no_memory source sink
        (over (λ of. StopsForMemory of given first last) (λ pages are.
        let one = so pages are in
        record { count = one.count; least = one.least; most = one.most; wrote = one.wrote }))

  -- all that is said, but that the cache has room for as many pages as before
  pub browses_by : (status : Status) → option_map (λ kept. kept.capacity) cache
      ≡ option_map (λ kept. kept.capacity) old.pages.cache
      → Browses Are play old new status → Browses AreToo play_too first last status
  browses_by status room so = record {
    taken = so.taken;
    given = so.given;
    reads = so.reads;
    ends = ends_too so.taken so.given status so.ends;
    prefix = λ bytes gives. over
        (λ of. AppendsPrefix old.sink.taken new.sink.taken (bytes_of (of (keys_of bytes).keys)))
        (so.prefix bytes gives);
    stays = record {
      known = so.stays.known;
      judge = alike;
      capacity = room;
      listings = so.stays.listings;
      faults = so.stays.faults;
      fetches = so.stays.fetches;
    };
    read_counts = so.read_counts;
    write_counts = so.write_counts;
  }

-- with the same cache
pub browses_too : {P Q : Type 0} (Are : P → Type 0) (play : P → List Key → Step)
    (AreToo : Q → Type 0) (play_too : Q → List Key → Step)
    → ((q : Q) → AreToo q → (p : P) × Are p × (play p ≡ play_too q)) → (old new : Outside)
    (status : Status) → Browses Are play old new status → Browses AreToo play_too old new status
browses_too Are play AreToo play_too same old new status so =
    browses_by Are play AreToo play_too same old new new.pages.cache old.pages.judge new.pages.judge
    so.stays.judge status so.stays.capacity so

-- and with no judgements
pub browses_unjudged : {P Q : Type 0} (Are : P → Type 0) (play : P → List Key → Step)
    (AreToo : Q → Type 0) (play_too : Q → List Key → Step)
    → ((q : Q) → AreToo q → (p : P) × Are p × (play p ≡ play_too q)) → (old new : Outside)
    (status : Status) → Browses Are play old new status
    → Browses AreToo play_too (unjudged old) (unjudged new) status
browses_unjudged Are play AreToo play_too same old new status so =
    browses_by Are play AreToo play_too same old new new.pages.cache (λ contents. [])
    (λ contents. []) refl status so.stays.capacity so

-- and over the same pages
pub forget_cache : (play : Play) (old new : Outside) (status : Status) (cache : Option Cache)
    → option_map (λ kept. kept.capacity) cache
    ≡ option_map (λ kept. kept.capacity) old.pages.cache
    → BrowsesSeen play old new status → BrowsesSeen play old (with_cache cache new) status
forget_cache play old new status cache room so =
    browses_by (AreUnitPages new.pages) play (AreUnitPages (with_cache cache new).pages) play
    (λ pages (judged, may, is). (pages, (judged, may_too new.pages cache judged may, is), refl)) old
    new cache old.pages.judge new.pages.judge so.stays.judge status room so

-- ---- over the pages of a store

-- the outside over a store, of whose pages none of so many is kept yet
abbrev pub fresh_over : StoreSeen → ℕ → SourceSeen → SinkSeen → Outside
fresh_over store capacity source sink = record {
  pages = seen_over store (record { names = []; capacity = capacity });
  source = source;
  sink = sink;
}

module _ {S : Type 0} (seen : S → StoreSeen) where
  -- the outside of a browser over a cache
  abbrev pub outside_over : CachedPages S → SourceSeen → SinkSeen → Outside
  outside_over cached source sink = record {
    pages = seen_over (seen cached.store) (cache_of cached);
    source = source;
    sink = sink;
  }

  -- a fact that says nothing of what a cache keeps afterwards, over one that kept nothing at first
  pub over_fresh : (Fact : Outside → Outside → Type 0)
      → ((old new : Outside) (cache : Option Cache)
      → option_map (λ kept. kept.capacity) cache
      ≡ option_map (λ kept. kept.capacity) old.pages.cache
      → Fact old new → Fact old (with_cache cache new))
      → (first last : CachedPages S) (store back : S) (capacity : ℕ)
      (source source_after : SourceSeen) (sink sink_after : SinkSeen)
      → first.store ≡ store → first.kept ≡ [] → first.capacity ≡ capacity → back ≡ last.store
      → Fact (outside_over first source sink) (outside_over last source_after sink_after)
      → Fact (fresh_over (seen store) capacity source sink)
      (fresh_over (seen back) capacity source_after sink_after)
  over_fresh Fact forget first last store back capacity source source_after sink sink_after of none
      many is so =
      let before : Outside = fresh_over (seen store) capacity source sink in
      let after : Outside = outside_over last source_after sink_after in
      let from : first ≡ record { store = store; kept = []; capacity = capacity } =
      λ i. record { store = of i; kept = none i; capacity = many i } in
      subst (λ (s : S). Fact before (fresh_over (seen s) capacity source_after sink_after)) (sym is)
      (forget before after (Some (record { names = []; capacity = capacity })) refl
      (subst (λ (cached : CachedPages S). Fact (outside_over cached source sink) after) from so))

  pub browsed_over : (play : Play) (first last : CachedPages S) (store back : S) (capacity : ℕ)
      (source source_after : SourceSeen) (sink sink_after : SinkSeen) (status : Status)
      → first.store ≡ store → first.kept ≡ [] → first.capacity ≡ capacity → back ≡ last.store
      → BrowsesSeen play (outside_over first source sink)
      (outside_over last source_after sink_after) status
      → BrowsesSeen play (fresh_over (seen store) capacity source sink)
      (fresh_over (seen back) capacity source_after sink_after) status
  browsed_over play first last store back capacity source source_after sink sink_after status =
      over_fresh (λ old new. BrowsesSeen play old new status)
      (λ old new cache. forget_cache play old new status cache) first last store back capacity
      source source_after sink sink_after
