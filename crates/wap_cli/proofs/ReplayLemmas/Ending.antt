-- How replaying ends.
use Rattle.std.proofs.Common.{◌≡◌, ◌≢◌, ℕ, ◌+◌, ◌≤◌, List, Ok, Err, refl, sym, ap, subst}
use Rattle.wap_base.specs.declared.fault.NoMemory.{NoMemory as OutOfMemory}
use Rattle.wap_devices.specs.Stores.{StoreSeen}
use Rattle.wap_devices.specs.Sources.{SourceSeen, MayGive}
use Rattle.wap_devices.specs.Sinks.{SinkSeen}
use Rattle.wap_base.specs.declared.key.Key.{Key}
use Rattle.wap_keys.specs.declared.limits.TheConstants.{KEYS_LIMIT}
use Rattle.wap_keys.specs.declared.fault.KeyFault.{KeyFault}
use Rattle.wap_keys.specs.declared.ending.Ending.{Ending}
use Rattle.wap_keys.specs.declared.ending.Ending.TheVariants as ending
use Rattle.wap_keys.specs.Read.{TakesAtMost, EndsAtMostOnce}
use Rattle.wap_keys.specs.lists.Lists.{all_of, lists_of}
use Rattle.wap_keys.specs.lists.Read.{AreRead, ReadsLists}
use Rattle.wap_world.specs.Sessions.{Begun}
use Rattle.wap_cli.specs.declared.status.Status.{Status}
use Rattle.wap_cli.specs.declared.status.Status.TheVariants.{BadKey, TooManyKeys, KeyReadFault}
use Rattle.wap_cli.specs.declared.status.Status.TheVariants.{NoMemory}
use Rattle.wap_cli.specs.prepare.Working.{WorksOnAll}
use Rattle.wap_cli.specs.Devices.{Devices}
use Rattle.wap_cli.specs.Networks.{Network}
use Rattle.wap_cli.specs.replay.Texts.{replayed}
use Rattle.wap_cli.specs.replay.Headline.{CameTo, Tells, Ends, IsNetworkOf, ReplaysSeen}
use Rattle.wap_cli.specs.replay.inside.Jobs.{TellsOf}
use Rattle.wap_cli.proofs.PrepareLemmas.Ending.{works_as}

-- where memory ran out before the store was asked
pub wanting : (begun : Begun) (source last : SourceSeen) (store : StoreSeen) (sink : SinkSeen)
    → last.faults ≡ source.faults → TakesAtMost (KEYS_LIMIT + 1) source last
    → source.faults ≤ last.faults → EndsAtMostOnce source last
    → ReplaysSeen begun (record { store = store; source = source; sink = sink })
    (record { store = store; source = last; sink = sink }) NoMemory
wanting begun source last store sink unread few counts end_once = record {
  ends = Ends.no_memory unread (refl, refl);
  few = few;
  end_once = end_once;
  counts = counts;
}

-- lists came to an end, unless the source failed
came_to : (source last : SourceSeen) (lists : List (List Key)) (by : Ending)
    → AreRead source last lists by → by ≢ ending.ReadFault → CameTo by source last
came_to source last lists by read unfailing = record {
  ending_is = read.ending_is unfailing;
  prompt = read.prompt;
  steady = read.steady unfailing;
}

module _ {A : Type 0} (lists_in : A → List (List Key)) (begun : Begun) (source last : SourceSeen)
    (store : StoreSeen) (sink : SinkSeen) where
  abbrev before : Devices
  before = record { store = store; source = source; sink = sink }

  abbrev after : Devices
  after = record { store = store; source = last; sink = sink }

  -- memory ran out for the keys
  pub wants : (fault : OutOfMemory) → ReadsLists {A = A} lists_in source last (Err fault)
      → ReplaysSeen begun before after NoMemory
  wants fault reads =
      wanting begun source last store sink reads.unread reads.few reads.counts reads.end_once

  -- a line is refused
  pub stops_at : (lists : A) (line : ℕ) (fault : KeyFault)
      → ReadsLists {A = A} lists_in source last (Ok (lists, ending.BadKey line fault))
      → ReplaysSeen begun before after (BadKey line fault)
  stops_at lists line fault reads =
      let by = ending.BadKey line fault in
      let read : AreRead source last (lists_in lists) by = reads.read in
      record {
        ends = Ends.bad_key line fault
            (λ is. read.of_line line (ap (λ (f : KeyFault). ending.BadKey line f) is))
            (came_to source last (lists_in lists) by read (λ e. absurd cc)) (refl, refl);
        few = reads.few;
        end_once = reads.end_once;
        counts = reads.counts;
      }

  -- there are too many bytes
  pub stops_past : (lists : A)
      → ReadsLists {A = A} lists_in source last (Ok (lists, ending.TooManyKeys))
      → ReplaysSeen begun before after TooManyKeys
  stops_past lists reads =
      let read : AreRead source last (lists_in lists) ending.TooManyKeys = reads.read in
      let (taken, many, gives) = read.too_many refl in
      record {
        ends = Ends.too_many_keys
            (came_to source last (lists_in lists) ending.TooManyKeys read (λ e. absurd cc)) taken
            many gives (refl, refl);
        few = reads.few;
        end_once = reads.end_once;
        counts = reads.counts;
      }

  -- the source failed
  pub stops_short : (lists : A)
      → ReadsLists {A = A} lists_in source last (Ok (lists, ending.ReadFault))
      → ReplaysSeen begun before after KeyReadFault
  stops_short lists reads =
      let read : AreRead source last (lists_in lists) ending.ReadFault = reads.read in
      let (taken, gives, unrefused) = read.given refl in
      record {
        ends = Ends.read_fault (read.failed refl) read.prompt taken gives unrefused (refl, refl);
        few = reads.few;
        end_once = reads.end_once;
        counts = reads.counts;
      }

-- what was written of the lists, over whatever both may be
tells_both : (begun : Begun) (old new : Devices) (lists : List (List Key))
    → ((bytes : List ℕ) → MayGive old.source new.source bytes → all_of (lists_of bytes) ≡ lists)
    → (Wrote : List ℕ → Type 0) → TellsOf begun lists new.store.known Wrote
    → Tells (IsNetworkOf new.store) begun old new Wrote
tells_both begun old new lists same Wrote told network (contents, agrees, is) bytes may =
    subst (λ (l : List (List Key)). Wrote (replayed network begun l)) (sym (same bytes may))
    (subst (λ (n : Network). Wrote (replayed n begun lists)) (sym is) (told contents agrees))

-- the lists were played, or not
pub worked : {A : Type 0} (lists_in : A → List (List Key)) (begun : Begun) (lists : A)
    (old new : Devices) (status : Status)
    → ReadsLists {A = A} lists_in old.source new.source (Ok (lists, ending.End))
    → WorksOnAll (TellsOf begun (lists_in lists) new.store.known) old.store new.store old.sink
    new.sink status
    → ReplaysSeen begun old new status
worked lists_in begun lists old new status reads works =
    let read : AreRead old.source new.source (lists_in lists) ending.End = reads.read in
    record {
      ends = Ends.played status
          (came_to old.source new.source (lists_in lists) ending.End read (λ e. absurd cc))
          (read.none_left refl)
          (works_as (TellsOf begun (lists_in lists) new.store.known)
          (Tells (IsNetworkOf new.store) begun old new)
          (tells_both begun old new (lists_in lists) (read.all refl)) old.store new.store old.sink
          new.sink status works);
      few = reads.few;
      end_once = reads.end_once;
      counts = reads.counts;
    }
