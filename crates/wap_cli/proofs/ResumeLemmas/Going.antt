-- A command on what was saved, from its beginning to its end.
use Rattle.std.specs.Prelude.{◌<◌}
use Rattle.std.proofs.Common.{◌≡◌, ℕ, List, [], Option, Some, Ok, refl, subst, ◌∙◌, inl, inr}
use Rattle.std.proofs.Common.{arith}
use Rattle.std.specs.Option.{option_map}
use Rattle.wap_base.specs.Contents.{Contents}
use Rattle.wap_devices.specs.Stores.{StoreSeen, Agrees, Grew}
use Rattle.wap_devices.specs.Sources.{SourceSeen}
use Rattle.wap_devices.specs.Sinks.{SinkSeen}
use Rattle.wap_image.specs.Images.{Saved}
use Rattle.wap_world.specs.site.Misses.{Cache}
use Rattle.wap_world.specs.site.Asking.{Stays}
use Rattle.wap_world.proofs.SiteLemmas.Asking.{Stays-same, Stays-then}
use Rattle.wap_pages.specs.declared.fault.PageFault.{PageFault}
use Rattle.wap_pages.specs.Caches.{CachedPages, seen_over}
use Rattle.wap_world.specs.Sessions.{Begun, world_of}
use Rattle.wap_state.specs.Saved.{parts_of}
use Rattle.wap_cli.specs.declared.status.Status.{Status}
use Rattle.wap_cli.specs.declared.status.Status.TheVariants.{NoMemory}
use Rattle.wap_cli.specs.browse.Outside.{Outside}
use Rattle.wap_cli.specs.browse.Plays.{opened}
use Rattle.wap_cli.specs.browse.Headline.{BrowsesSeen}
use Rattle.wap_cli.proofs.BrowseLemmas.Exits.{nothing_browses}
use Rattle.wap_cli.proofs.BrowseLemmas.Forgetting.{may_too, with_cache, forget_cache, fresh_over}
use Rattle.wap_cli.proofs.BrowseLemmas.Forgetting.{outside_over, over_fresh}
use Rattle.wap_cli.specs.resume.Saving.{ImagesSeen, nothing_dropped, unshown}
use Rattle.wap_cli.specs.Answers.{IsPageOf}
use Rattle.wap_cli.specs.resume.Resuming.{resumed, HasDeck, LacksDeck, Hinders, Fails, Unbegun}
use Rattle.wap_cli.specs.resume.Resuming.{asked_once, Resumes, ResumesSeen}
use Rattle.wap_cli.specs.resume.inside.Loading.{IsFetched, Loads, Continues}
use Rattle.wap_cli.proofs.ResumeLemmas.Fetching.{page_later}

-- ---- nothing was done

-- where memory ran out before a session was begun
pub nothing_imaged : (begun : Begun) (old : Outside) → ImagesSeen begun old old NoMemory
nothing_imaged begun old = record {
  dropped = nothing_dropped;
  end = NoMemory;
  plays = nothing_browses (opened begun) (unshown nothing_dropped old);
  stops = λ undone. (refl, refl);
  parts = parts_of (world_of begun);
  ends_in = λ is. absurd cc;
  saves = λ is. absurd cc;
  of_reason = λ fault is. absurd cc;
  whole = λ is. absurd cc;
}

-- or anything was fetched
pub unbegun_same : (Cause : PageFault → Type 0) (old : Outside)
    → Unbegun Cause old old NoMemory
unbegun_same Cause old =
    record { ends = Fails.no_memory; stays = Stays-same old.pages; unread = refl; unwritten = refl }

pub nothing_resumed : (name : List ℕ) (old : Outside) → ResumesSeen name old old NoMemory
nothing_resumed name old =
    Resumes.stops (unbegun_same (Hinders old.pages.known name) old)

-- ---- causes that nothing is begun

-- one cause is another, and a count is as it was before
pub fails_as : (Cause Other : PageFault → Type 0) → ((why : PageFault) → Cause why → Other why)
    → (before now after : ℕ) → now ≡ before → (status : Status) → Fails Cause now after status
    → Fails Other before after status
fails_as Cause Other turn before now after is status (Fails.refused why cause plain same) =
    Fails.refused why (turn why cause) plain (same ∙ is)
fails_as Cause Other turn before now after is status (Fails.store_fault rose) =
    Fails.store_fault (subst (λ (count : ℕ). count < after) is rose)
fails_as Cause Other turn before now after is status Fails.no_memory = Fails.no_memory

-- ---- over the pages of a store

module _ (before after : StoreSeen) (capacity : ℕ) (source : SourceSeen) (sink : SinkSeen) where
  -- one page was fetched
  pub fetched_stays : IsFetched before after → Stays
      (seen_over before (record { names = []; capacity = capacity }))
      (seen_over after (record { names = []; capacity = capacity }))
  fetched_stays fetched = record {
    known = fetched.known;
    judge = refl;
    capacity = refl;
    listings = fetched.listings;
    faults = fetched.counts;
    fetches = let one = fetched.fetches in omega (arith, one);
  }

  -- it gave nothing
  pub unbegun_by : (Cause : PageFault → Type 0) (status : Status)
      → Fails Cause before.faults after.faults status → IsFetched before after
      → Unbegun Cause (fresh_over before capacity source sink)
      (fresh_over after capacity source sink) status
  unbegun_by Cause status none fetched =
      record { ends = none; stays = fetched_stays fetched; unread = refl; unwritten = refl }

-- ---- all of it

module _ (name : List ℕ) (before mid after : StoreSeen) (capacity : ℕ)
    (source source_after : SourceSeen) (sink sink_after : SinkSeen) (status : Status) where
  -- before and after
  abbrev old : Outside
  old = fresh_over before capacity source sink

  abbrev new : Outside
  new = fresh_over after capacity source_after sink_after

  -- once the image was fetched
  abbrev now : Outside
  now = fresh_over mid capacity source sink

  -- nothing was loaded
  pub resumes_none : Fails (Hinders mid.known name) before.faults mid.faults status
      → IsFetched before mid → ResumesSeen name old now status
  resumes_none none fetched =
      Resumes.stops
      (unbegun_by before mid capacity source sink (Hinders mid.known name) status none fetched)

  -- after the fetch the store is as it was, but that it was asked once more, and told the bytes
  fetched_is : (saved : Saved) (loads : Loads name before mid (Ok saved))
      → now ≡ asked_once name loads.found.0 old
  fetched_is saved loads = λ i. fresh_over (record {
    known = loads.found.1 i;
    faults = loads.steady i;
    fetches = loads.fetched.fetches i;
    listings = loads.fetched.listings i;
  }) capacity source sink

  -- the bytes are still those of any pages that may be the store's
  page_still : (saved : Saved) (loads : Loads name before mid (Ok saved))
      → Grew mid.known after.known → IsPageOf after.known name (Some loads.found.0)
  page_still saved loads grew =
      page_later mid.known after.known grew name (Some loads.found.0) loads.found.2

  -- what was saved went on
  resumes_on : (saved : Saved) → Loads name before mid (Ok saved)
      → ((pages : Contents) → Agrees after.known pages → HasDeck pages saved.0)
      → BrowsesSeen (resumed saved.0 saved.1) now new status → ResumesSeen name old new status
  resumes_on saved loads deck plays = Resumes.goes_on saved (record {
    there = record {
      bytes = loads.found.0;
      page = page_still saved loads plays.stays.known;
      image = loads.found.3;
      deck = deck;
    };
    browses = subst (λ (o : Outside). BrowsesSeen (resumed saved.0 saved.1) o new status)
        (fetched_is saved loads) plays;
  })

  -- its deck isn't there
  resumes_not : (saved : Saved) → Loads name before mid (Ok saved)
      → Unbegun (LacksDeck after.known saved.0) now new status → ResumesSeen name old new status
  resumes_not saved loads unbegun =
      let ends = fails_as (LacksDeck after.known saved.0) (Hinders after.known name)
      (λ why lacks. Hinders.deckless loads.found.0 saved why
      (page_still saved loads unbegun.stays.known) loads.found.3 lacks)
      before.faults mid.faults after.faults loads.steady status unbegun.ends in
      Resumes.stops
      (record {
        ends = ends;
        stays = Stays-then old.pages now.pages new.pages
            (fetched_stays before mid capacity source sink loads.fetched) unbegun.stays;
        unread = unbegun.unread;
        unwritten = unbegun.unwritten;
      })

  pub resumes_by : (saved : Saved) → Loads name before mid (Ok saved)
      → Continues saved now new status → ResumesSeen name old new status
  resumes_by saved loads (inl (deck, plays)) = resumes_on saved loads deck plays
  resumes_by saved loads (inr unbegun) = resumes_not saved loads unbegun

-- ---- the cache of the pages is forgotten

-- what a session is saved in says nothing of what the cache keeps
forget_images : (begun : Begun) (old new : Outside) (status : Status) (cache : Option Cache)
    → option_map (λ kept. kept.capacity) cache
    ≡ option_map (λ kept. kept.capacity) old.pages.cache
    → ImagesSeen begun old new status
    → ImagesSeen begun old (with_cache cache new) status
forget_images begun old new status cache same so = record {
  dropped = so.dropped;
  end = so.end;
  plays = forget_cache (opened begun) (unshown nothing_dropped old) (unshown so.dropped new) so.end
      cache same
      so.plays;
  stops = so.stops;
  parts = so.parts;
  ends_in = λ is bytes gives pages (judged, may, are).
      so.ends_in is bytes gives pages (judged, may_too new.pages cache judged may, are);
  saves = so.saves;
  of_reason = so.of_reason;
  whole = λ is bytes gives pages (judged, may, are).
      so.whole is bytes gives pages (judged, may_too new.pages cache judged may, are);
}

module _ {S : Type 0} (seen : S → StoreSeen) where
  -- over a cache that kept nothing at first
  pub imaged_over : (begun : Begun) (first last : CachedPages S) (store back : S) (capacity : ℕ)
      (source source_after : SourceSeen) (sink sink_after : SinkSeen) (status : Status)
      → first.store ≡ store → first.kept ≡ [] → first.capacity ≡ capacity → back ≡ last.store
      → ImagesSeen begun (outside_over seen first source sink)
      (outside_over seen last source_after sink_after) status
      → ImagesSeen begun (fresh_over (seen store) capacity source sink)
      (fresh_over (seen back) capacity source_after sink_after) status
  imaged_over begun first last store back capacity source source_after sink sink_after status =
      over_fresh seen (λ old new. ImagesSeen begun old new status)
      (λ old new. forget_images begun old new status) first last store back capacity source
      source_after sink sink_after
