-- What is said of lists of keys over the networks of a store is said of them over others that are
-- such networks; and where nothing was done, memory ran out.
use Rattle.std.proofs.Common.{◌+◌, [], refl, inl, arith}
use Rattle.wap_devices.proofs.Transfers.{Appends-nil}
use Rattle.wap_devices.specs.Sources.{SourceSeen}
use Rattle.wap_keys.specs.declared.limits.TheConstants.{KEYS_LIMIT}
use Rattle.wap_keys.specs.Read.{TakesAtMost}
use Rattle.wap_cli.specs.Networks.{Network}
use Rattle.wap_world.specs.Sessions.{Begun}
use Rattle.wap_cli.specs.declared.status.Status.{Status}
use Rattle.wap_cli.specs.declared.status.Status.TheVariants.{NoMemory}
use Rattle.wap_cli.specs.Devices.{Devices}
use Rattle.wap_cli.specs.replay.Headline.{Tells, Ends, Replays, ReplaysSeen}
use Rattle.wap_cli.proofs.PrepareLemmas.Ending.{works_as}
use Rattle.wap_cli.proofs.ReplayLemmas.Ending.{wanting}

-- ---- over other networks

module _ (IsNetwork IsNetworkToo : Network → Type 0)
    (same : (network : Network) → IsNetworkToo network → IsNetwork network)
    (begun : Begun) (old new : Devices) where
  ends_too : (status : Status) → Ends IsNetwork begun old new status
      → Ends IsNetworkToo begun old new status
  ends_too status (Ends.played one came end works) =
      Ends.played one came end
      (works_as (Tells IsNetwork begun old new) (Tells IsNetworkToo begun old new)
      (λ Wrote told network is. told network (same network is)) old.store new.store old.sink
      new.sink one
      works)
  ends_too status (Ends.bad_key line fault of_line came none) =
      Ends.bad_key line fault of_line came none
  ends_too status (Ends.too_many_keys came taken many gives none) =
      Ends.too_many_keys came taken many gives none
  ends_too status (Ends.read_fault rose prompt taken gives unrefused none) =
      Ends.read_fault rose prompt taken gives unrefused none
  ends_too status (Ends.no_memory steady none) = Ends.no_memory steady none

  pub replays_too : (status : Status) → Replays IsNetwork begun old new status
      → Replays IsNetworkToo begun old new status
  replays_too status so = record {
    ends = ends_too status so.ends;
    few = so.few;
    end_once = so.end_once;
    counts = so.counts;
  }

-- ---- where nothing was done

-- no byte was taken
takes_none : (seen : SourceSeen) → TakesAtMost (KEYS_LIMIT + 1) seen seen
takes_none seen = (
  [],
  omega arith,
  record { given = Appends-nil seen.given; coming = λ rest may. may },
)

-- memory ran out
pub nothing_replayed : (begun : Begun) (old : Devices) → ReplaysSeen begun old old NoMemory
nothing_replayed begun old =
    wanting begun old.source old.source old.store old.sink refl (takes_none old.source)
    (omega arith) (inl refl)
