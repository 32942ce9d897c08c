-- What was saved goes on over the pages of a store, of which none is kept at first.
use Rattle.std.proofs.Common.{◌≡◌, ℕ, List, [], ◌∷◌, false, Some, Ok, Err, refl, sym, subst}
use Rattle.std.proofs.Common.{inl, inr}
use Rattle.std.specs.Prelude.{Result}
use Rattle.wap_base.specs.declared.fault.RunErr.{RunErr}
use Rattle.wap_base.specs.declared.fault.RunErr.TheVariants as run_error
use Rattle.wap_devices.specs.Stores.{StoreSeen}
use Rattle.wap_devices.proofs.Telling.{grew_nothing, agrees_before}
use Rattle.wap_devices.specs.Sources.{SourceSeen}
use Rattle.wap_devices.specs.Sinks.{SinkSeen}
use Rattle.wap_image.specs.Images.{Saved}
use Rattle.wap_world.specs.site.Misses.{Cache}
use Rattle.wap_world.specs.site.Pages.{Pages as JudgedPages, AreSitePages}
use Rattle.wap_world.specs.site.Asking.{Seen, MayBe, Stays, Asks}
use Rattle.wap_pages.specs.declared.fault.PageFault.TheVariants as page_fault
use Rattle.wap_pages.specs.Caches.{CachedPages, cache_of, seen_over}
use Rattle.wap_pages.proofs.Judgements.{judged_pages_fit}
use Rattle.wap_context.specs.Browsers.{Browser}
use Rattle.wap_context.specs.declared.saved.Revived.{Revived}
use Rattle.wap_context.specs.declared.saved.Revived.TheVariants as what
use Rattle.wap_context.specs.Saved.{asked_for, Revives}
use Rattle.wap_session.specs.Feeding.{State, going_on}
use Rattle.wap_cli.specs.declared.status.Status.{Status}
use Rattle.wap_cli.specs.declared.status.Status.TheVariants.{Refused, StoreFault, NoMemory}
use Rattle.wap_cli.specs.browse.Outside.{Outside}
use Rattle.wap_cli.specs.browse.Plays.{Play}
use Rattle.wap_cli.specs.browse.Headline.{BrowsesSeen}
use Rattle.wap_cli.specs.browse.Standing.{Moved, outside_of, Browsed}
use Rattle.wap_cli.proofs.BrowseLemmas.Forgetting.{forget_cache, fresh_over, outside_over}
use Rattle.wap_cli.specs.resume.Resuming.{resumed, LacksDeck}
use Rattle.wap_cli.specs.resume.inside.Loading.{RefusesDeck, Continues}
use Rattle.wap_cli.proofs.ResumeLemmas.Reviving.{browsed_by, has_deck}
use Rattle.wap_cli.proofs.ResumeLemmas.Going.{unbegun_same}
use Rattle.wap_cli.proofs.ResumeLemmas.Ending.{fresh, fault_ends, wants_ends, missing_ends}
use Rattle.wap_cli.proofs.ResumeLemmas.Ending.{refused_ends}

-- pages that may be seen over a store are those of a site
site_seen : (store : StoreSeen) (cache : Cache) (pages : JudgedPages)
    → MayBe (seen_over store cache) pages → AreSitePages pages
site_seen store cache pages may =
    subst AreSitePages (sym may.are) (judged_pages_fit may.contents may.agrees.distinct)

module _ {S : Type 0} (seen : S → StoreSeen) (saved : Saved) (first : CachedPages S) (store : S)
    (capacity : ℕ) (source : SourceSeen) (sink : SinkSeen)
    (of : first.store ≡ store) (none : first.kept ≡ []) (many : first.capacity ≡ capacity) where
  -- what is seen at first
  abbrev before : Seen
  before = seen_over (seen store) (fresh capacity)

  -- and later
  abbrev later : CachedPages S → Seen
  later cached = seen_over (seen cached.store) (cache_of cached)

  abbrev old : Outside
  old = fresh_over (seen store) capacity source sink

  -- where it comes to in the end
  abbrev Comes : S → SourceSeen → SinkSeen → Status → Type 0
  Comes back source_after sink_after status =
      Continues saved old (fresh_over (seen back) capacity source_after sink_after) status

  seen_first : later first ≡ before
  seen_first = λ i. seen_over (seen (of i))
      (cache_of (record { store = of i; kept = none i; capacity = many i }))

  -- what is made of it over these pages
  made_there : (last : CachedPages S) (result : Result Revived RunErr)
      → Revives saved.0 (later first) (later last) result
      → Revives saved.0 before (later last) result
  made_there last result =
      subst (λ (at : Seen). Revives saved.0 at (later last) result) seen_first

  -- at first, were what is known later known already
  abbrev known_already : CachedPages S → Seen
  known_already cached = record before { known = (seen cached.store).known }

  asks_already : (mid : CachedPages S) → Asks (asked_for saved.0) before (later mid)
      → Asks (asked_for saved.0) (known_already mid) (later mid)
  asks_already mid asks =
      record { cache = asks.cache; fetches = asks.fetches; steady = asks.steady }

  stays_already : (mid : CachedPages S) → Stays before (later mid)
      → Stays (known_already mid) (later mid)
  stays_already mid stays = record {
    known = grew_nothing (seen mid.store).known (seen mid.store).known refl;
    judge = refl;
    capacity = stays.capacity;
    listings = stays.listings;
    faults = stays.faults;
    fetches = stays.fetches;
  }

  -- the page of the current card is missing
  pub missing_over : (last : CachedPages S) (back : S) → back ≡ last.store
      → Revives saved.0 (later first) (later last) (Ok what.Missing)
      → Comes back source sink (Refused page_fault.Missing)
  missing_over last back is made =
      subst (λ (s : S). Comes s source sink (Refused page_fault.Missing)) (sym is)
      (inr (missing_ends saved.0 (seen store) (seen last.store) (cache_of last) capacity source sink
      (made_there last (Ok what.Missing) made)))

  -- the store failed, or memory ran out
  pub fault_over : (last : CachedPages S) (back : S) → back ≡ last.store
      → Revives saved.0 (later first) (later last) (Err run_error.Store)
      → Comes back source sink StoreFault
  fault_over last back is made =
      subst (λ (s : S). Comes s source sink StoreFault) (sym is)
      (inr (fault_ends saved.0 (seen store) (seen last.store) (cache_of last) capacity source sink
      (made_there last (Err run_error.Store) made)))

  pub wants_over : (last : CachedPages S) (back : S) → back ≡ last.store
      → Revives saved.0 (later first) (later last) (Err run_error.NoMemory)
      → Comes back source sink NoMemory
  wants_over last back is made =
      subst (λ (s : S). Comes s source sink NoMemory) (sym is)
      (inr (wants_ends saved.0 (seen store) (seen last.store) (cache_of last) capacity source sink
      (made_there last (Err run_error.NoMemory) made)))

  -- it is no deck
  pub refused_over : (last : CachedPages S) (back new : S) (name : List ℕ) (status : Status)
      → back ≡ last.store → Revives saved.0 (later first) (later last) (Ok what.Refused)
      → asked_for saved.0 ≡ (name, false) ∷ [] → RefusesDeck name (seen back) (seen new) status
      → Comes new source sink status
  refused_over last back new name status is made asked refuses =
      inr (refused_ends saved.0 (seen store) (seen last.store) (cache_of last) capacity source sink
      name (seen new) status (made_there last (Ok what.Refused) made) asked
      (subst (λ (s : S). RefusesDeck name (seen s) (seen new) status) is refuses))

  -- the session goes on
  pub context_over : (browser : Browser) (mid last : CachedPages S) (back : S) (session : State)
      (source_after : SourceSeen) (sink_after : SinkSeen) (status : Status) → back ≡ last.store
      → Revives saved.0 (later first) (later mid) (Ok (what.Context browser))
      → session ≡ going_on browser saved.1
      → ((play : Play) (from : Moved)
      → Browsed play [] from (record { pages = later mid; sink = sink }) session
      → BrowsesSeen play (outside_of from source) (outside_over seen last source_after sink_after)
      status)
      → Comes back source_after sink_after status
  context_over browser mid last back session source_after sink_after status is made begun plays =
      let now : Moved = record { pages = later mid; sink = sink } in
      let there = made_there mid (Ok (what.Context browser)) made in
      let on : (pages : Seen) → Asks (asked_for saved.0) pages (later mid) → Stays pages (later mid)
      → BrowsesSeen (resumed saved.0 saved.1)
      (record { pages = pages; source = source; sink = sink })
      (outside_over seen last source_after sink_after) status =
      λ pages asks stays.
      let from : Moved = record { pages = pages; sink = sink } in
      plays (resumed saved.0 saved.1) from
      (subst (Browsed (resumed saved.0 saved.1) [] from now) (sym begun)
      (browsed_by saved.0 saved.1 from now browser (site_seen (seen mid.store) (cache_of mid))
      there.is asks stays refl)) in
      subst (λ (s : S). Comes s source_after sink_after status) (sym is)
      (inl (
        λ contents agrees. has_deck saved.0 saved.1 (seen mid.store) (cache_of mid) browser there.is
            contents
            (agrees_before (seen mid.store).known (seen last.store).known (on (known_already mid)
            (asks_already mid there.asks) (stays_already mid there.stays)).stays.known contents
            agrees),
        forget_cache (resumed saved.0 saved.1) old
            (outside_over seen last source_after sink_after) status (Some (fresh capacity)) refl
            (on before there.asks there.stays),
      ))

-- memory ran out before anything was asked for
pub lost_over : {S : Type 0} (seen : S → StoreSeen) (saved : Saved) (store back : S) (capacity : ℕ)
    (source : SourceSeen) (sink : SinkSeen) → back ≡ store
    → Continues saved (fresh_over (seen store) capacity source sink)
    (fresh_over (seen back) capacity source sink) NoMemory
lost_over {S = S} seen saved store back capacity source sink is =
    subst (λ (s : S). Continues saved (fresh_over (seen store) capacity source sink)
    (fresh_over (seen s) capacity source sink) NoMemory) (sym is)
    (inr (unbegun_same (LacksDeck (seen store).known saved.0)
    (fresh_over (seen store) capacity source sink)))
