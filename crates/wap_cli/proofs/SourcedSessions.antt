-- What is said of sessions that are saved and gone on with over the units that a store's pages are
-- judged to is said of them over the sources that its pages are.
use Rattle.std.proofs.Common.{◌≡◌, ℕ, List, [], refl, ap, subst}
use Rattle.wap_base.specs.declared.key.Key.{Key}
use Rattle.wap_keys.specs.Lines.{keys_of}
use Rattle.wap_image.specs.Images.{Saved}
use Rattle.wap_world.specs.Steps.{Step}
use Rattle.wap_world.specs.Sessions.{Begun}
use Rattle.wap_cli.specs.declared.status.Status.{Status}
use Rattle.wap_cli.specs.browse.Outside.{Outside}
use Rattle.wap_cli.specs.browse.Plays.{AreUnitPages as AreSeen}
use Rattle.wap_cli.specs.browse.Headline.{Browses}
use Rattle.wap_cli.specs.resume.Saving.{opened_at, nothing_dropped, unshown, EndsAt, IsWhole}
use Rattle.wap_cli.specs.resume.Saving.{Images}
use Rattle.wap_cli.specs.resume.Saving.{ImagesSeen}
use Rattle.wap_cli.specs.resume.Resuming.{resumed_at, asked_once, GoesOn, Resumes, ResumesSeen}
use Rattle.wap_cli.specs.Devices.{Devices}
use Rattle.wap_cli.specs.Networks.{Network, network_of}
use Rattle.wap_cli.specs.Browsing.{ArePagesAndReaders, source_network}
use Rattle.wap_cli.specs.SavedSessions.{ImagesOver, ResumesOver}
use Rattle.wap_cli.proofs.BrowseLemmas.Forgetting.{unjudged, browses_unjudged}
use Rattle.wap_cli.proofs.Sourcing.{units_of, fresh}

-- ---- other pages with the same network

module _ {P Q : Type 0} (Are : P → Type 0) (network : P → Network) (AreToo : Q → Type 0)
    (network_too : Q → Network)
    (same : (q : Q) → AreToo q → (p : P) × Are p × (network p ≡ network_too q)) where
  -- a fact of their networks
  fact_too : (Fact : Network → Type 0) → ((p : P) → Are p → Fact (network p)) → (q : Q) → AreToo q
      → Fact (network_too q)
  fact_too Fact so q are = let found = same q are in subst Fact found.2 (so found.0 found.1)

  -- keys that are played over the networks
  plays_too : (play : Network → List Key → Step) (old new : Outside) (status : Status)
      → Browses Are (λ p. play (network p)) old new status
      → Browses AreToo (λ q. play (network_too q)) (unjudged old) (unjudged new) status
  plays_too play old new status so =
      browses_unjudged Are (λ p. play (network p)) AreToo (λ q. play (network_too q))
      (λ q are. let found = same q are in (found.0, found.1, ap play found.2)) old new status so

  -- a session that is saved
  images_too : (begun : Begun) (old new : Outside) (status : Status)
      → Images Are network begun old new status
      → Images AreToo network_too begun (unjudged old) (unjudged new) status
  images_too begun old new status so = record {
    dropped = so.dropped;
    end = so.end;
    plays = plays_too (opened_at begun) (unshown nothing_dropped old) (unshown so.dropped new)
        so.end so.plays;
    stops = so.stops;
    parts = so.parts;
    ends_in = λ is bytes may.
        fact_too (λ one. EndsAt begun one (keys_of bytes).keys so.parts) (so.ends_in is bytes may);
    saves = so.saves;
    of_reason = so.of_reason;
    whole = λ is bytes may.
        fact_too (λ one. IsWhole so.parts (opened_at begun one (keys_of bytes).keys).world)
        (so.whole is bytes may);
  }

  -- and one that goes on
  goes_on_too : (name : List ℕ) (old new : Outside) (status : Status) (saved : Saved)
      → GoesOn Are network name old new status saved
      → GoesOn AreToo network_too name (unjudged old) (unjudged new) status saved
  goes_on_too name old new status saved so = record {
    there = so.there;
    browses = plays_too (resumed_at saved.0 saved.1) (asked_once name so.there.bytes old) new status
        so.browses;
  }

  resumes_too : (name : List ℕ) (old new : Outside) (status : Status)
      → Resumes Are network name old new status
      → Resumes AreToo network_too name (unjudged old) (unjudged new) status
  resumes_too name old new status (Resumes.goes_on saved so) =
      Resumes.goes_on saved (goes_on_too name old new status saved so)
  resumes_too name old new status (Resumes.stops unbegun) = Resumes.stops (record {
    ends = unbegun.ends;
    stays = record {
      known = unbegun.stays.known;
      judge = refl;
      capacity = unbegun.stays.capacity;
      listings = unbegun.stays.listings;
      faults = unbegun.stays.faults;
      fetches = unbegun.stays.fetches;
    };
    unread = unbegun.unread;
    unwritten = unbegun.unwritten;
  })

-- ---- over the pages of a store

module _ (capacity : ℕ) (old new : Devices) (status : Status) where
  abbrev before : Outside
  before = fresh capacity old

  abbrev after : Outside
  after = fresh capacity new

  -- saving over units is saving over sources
  pub images_over : (begun : Begun) → ImagesSeen begun before after status
      → ImagesOver begun capacity old new status
  images_over begun so =
      images_too (AreSeen after.pages) network_of (ArePagesAndReaders new.store) source_network
      (units_of new.store (record { names = []; capacity = capacity })) begun before after status so

  -- and so is going on
  pub resumes_over : (name : List ℕ) → ResumesSeen name before after status
      → ResumesOver name capacity old new status
  resumes_over name so =
      resumes_too (AreSeen after.pages) network_of (ArePagesAndReaders new.store) source_network
      (units_of new.store (record { names = []; capacity = capacity })) name before after status so
