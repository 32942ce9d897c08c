-- What the replaying of lists of keys comes to: what is written, what is asked for, and how it
-- ends. This project's own.
use Rattle.std.specs.Prelude.{◌≡◌, ◌≢◌, ℕ, ◌+◌, ◌≤◌, List, length, ◌<◌}
use Rattle.wap_base.specs.Contents.{Contents}
use Rattle.wap_devices.specs.Stores.{StoreSeen, Agrees}
use Rattle.wap_devices.specs.Sources.{SourceSeen, Gives, MayGive}
use Rattle.wap_keys.specs.declared.limits.TheConstants.{KEYS_LIMIT}
use Rattle.wap_keys.specs.declared.fault.KeyFault.{KeyFault}
use Rattle.wap_keys.specs.declared.fault.KeyFault.TheVariants as key
use Rattle.wap_keys.specs.declared.ending.Ending.{Ending}
use Rattle.wap_keys.specs.declared.ending.Ending.TheVariants as ending
use Rattle.wap_keys.specs.Read.{TakesAtMost, GivesEnd, EndsAtMostOnce}
use Rattle.wap_keys.specs.lists.Lists.{all_of, lists_at, lists_of}
use Rattle.wap_keys.specs.lists.Read.{IsJustOver}
use Rattle.wap_world.specs.Sessions.{Begun}
use Rattle.wap_cli.specs.declared.status.Status.{Status}
use Rattle.wap_cli.specs.declared.status.Status.TheVariants.{BadKey, TooManyKeys, KeyReadFault}
use Rattle.wap_cli.specs.declared.status.Status.TheVariants.{NoMemory}
use Rattle.wap_cli.specs.prepare.Working.{WorksOnAll}
use Rattle.wap_cli.specs.Devices.{Devices}
use Rattle.wap_cli.specs.Networks.{Network}
use Rattle.wap_cli.specs.replay.Texts.{replayed, network_of_store}

-- the lists came to this end: whatever their bytes may be, they end so. No read began once a line
-- was refused, nor once one gave the end, or a byte too many.
pub record CameTo (by : Ending) (before after : SourceSeen) : Type 0 where
  pub ending_is : (bytes : List ℕ) → MayGive before after bytes → (lists_of bytes).ending ≡ by
  pub prompt : IsJustOver before after
  pub steady : after.faults ≡ before.faults

-- what there is to be written, by whatever the network with the store's pages and the bytes of the
-- keys may be
abbrev pub Tells : (Network → Type 0) → Begun → Devices → Devices → (List ℕ → Type 0) → Type 0
Tells IsNetwork begun old new Wrote = (network : Network) → IsNetwork network
    → (bytes : List ℕ) → MayGive old.source new.source bytes
    → Wrote (replayed network begun (all_of (lists_of bytes)))

-- nothing was asked of the store, or written
abbrev pub Untouched : Devices → Devices → Type 0
Untouched old new = (new.store ≡ old.store) × (new.sink ≡ old.sink)

-- how it ends over the network, with each status, and with no other
pub data Ends (IsNetwork : Network → Type 0) (begun : Begun) (old new : Devices)
    : Status → Type 0 where
  -- all keys were read; then the pages of the store were asked for, and for each list its header
  -- and its transcript were to be written, in order
  played : (status : Status) → CameTo ending.End old.source new.source
      → GivesEnd old.source new.source
      → WorksOnAll (Tells IsNetwork begun old new) old.store new.store old.sink new.sink status
      → Ends IsNetwork begun old new status
  -- a line is refused; out of memory is no fault of a line
  bad_key : (line : ℕ) (fault : KeyFault) → fault ≢ key.NoMemory
      → CameTo (ending.BadKey line fault) old.source new.source → Untouched old new
      → Ends IsNetwork begun old new (BadKey line fault)
  -- one byte more was taken than counts
  too_many_keys : CameTo ending.TooManyKeys old.source new.source
      → (taken : List ℕ) → length taken ≡ KEYS_LIMIT + 1 → Gives taken old.source new.source
      → Untouched old new → Ends IsNetwork begun old new TooManyKeys
  -- the source failed, and no line is refused of the bytes that were taken by then
  read_fault : old.source.faults < new.source.faults → IsJustOver old.source new.source
      → (taken : List ℕ) → Gives taken old.source new.source
      → (lists_at ending.ReadFault taken).ending ≡ ending.ReadFault
      → Untouched old new → Ends IsNetwork begun old new KeyReadFault
  -- memory ran out for the keys
  no_memory : new.source.faults ≡ old.source.faults → Untouched old new
      → Ends IsNetwork begun old new NoMemory

-- sessions that are begun so, one for each list, over the network, from the outside
-- before to the outside after, and the status; by however many workers
pub record Replays (IsNetwork : Network → Type 0) (begun : Begun) (old new : Devices)
    (status : Status) : Type 0 where
  pub ends : Ends IsNetwork begun old new status
  -- no more bytes of keys are taken than one too many, and the source gives its end once at most
  pub few : TakesAtMost (KEYS_LIMIT + 1) old.source new.source
  pub end_once : EndsAtMostOnce old.source new.source
  pub counts : old.source.faults ≤ new.source.faults

-- ---- over judged pages

-- the network with pages that may be those of a store, as they are judged
abbrev pub IsNetworkOf : StoreSeen → Network → Type 0
IsNetworkOf store network =
    (contents : Contents) × Agrees store.known contents × (network ≡ network_of_store contents)

-- the same over the pages that the store may have by what it told, as they are judged
abbrev pub ReplaysSeen : Begun → Devices → Devices → Status → Type 0
ReplaysSeen begun old new status = Replays (IsNetworkOf new.store) begun old new status
