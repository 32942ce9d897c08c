-- What it comes to that keys are read and played: what is written, what is asked for, and how it
-- ends. This project's own.
use Rattle.std.specs.Prelude.{◌≡◌, ◌≢◌, ℕ, ◌+◌, ◌≤◌, Bool, true, false, List, length, ◌<◌}
use Rattle.wap_devices.specs.Sources.{MayGive}
use Rattle.wap_devices.specs.Transfer.{AppendsPrefix}
use Rattle.wap_base.specs.declared.key.Key.{Key}
use Rattle.wap_keys.specs.declared.limits.TheConstants.{KEYS_LIMIT}
use Rattle.wap_keys.specs.declared.fault.KeyFault.{KeyFault}
use Rattle.wap_keys.specs.declared.fault.KeyFault.TheVariants as key
use Rattle.wap_keys.specs.declared.ending.Ending.{Ending}
use Rattle.wap_keys.specs.declared.ending.Ending.TheVariants as ending
use Rattle.wap_keys.specs.Lines.{keys_of, keys_at}
use Rattle.wap_keys.specs.Read.{IsAtLast, HasGiven}
use Rattle.wap_world.specs.site.Asking.{Stays}
use Rattle.wap_world.specs.Steps.{Step}
use Rattle.wap_cli.specs.declared.status.Status.{Status}
use Rattle.wap_cli.specs.declared.status.Status.TheVariants.{Done, OpenDialog, BadKey}
use Rattle.wap_cli.specs.declared.status.Status.TheVariants.{TooManyKeys, KeyReadFault}
use Rattle.wap_cli.specs.declared.status.Status.TheVariants.{StoreFault, WriteFault, NoMemory}
use Rattle.wap_cli.specs.browse.Outside.{Outside}
use Rattle.wap_cli.specs.browse.Plays.{Play, AreUnitPages}
use Rattle.wap_cli.specs.browse.Handling.{bytes_of, IsPlayed}
use Rattle.wap_cli.specs.browse.Stopping.{StopsAtStore, StopsAtSink, StopsForMemory}

-- ---- counts of faults that stay

abbrev pub StoreStays : Outside → Outside → Type 0
StoreStays old new = new.pages.faults ≡ old.pages.faults

abbrev pub SourceStays : Outside → Outside → Type 0
SourceStays old new = new.source.faults ≡ old.source.faults

abbrev pub SinkStays : Outside → Outside → Type 0
SinkStays old new = new.sink.faults ≡ old.sink.faults

-- ---- how it ends

-- over these pages, where these bytes were taken and these keys were given
module _ {P : Type 0} (Are : P → Type 0) (play : P → List Key → Step) (old new : Outside)
    (taken : List ℕ) (given : List Key) where
  -- all that were given were played to their end, and nothing failed but the source, maybe
  pub record ArePlayed : Type 0 where
    pub played : (pages : P) → Are pages → IsPlayed (play pages) given old new
    pub store : StoreStays old new
    pub sink : SinkStays old new

  -- whatever the bytes of the source may be, these are all their keys, which end so; they were
  -- played
  pub record AreAll (by : Ending) : Type 0 where
    pub all : (bytes : List ℕ) → MayGive old.source new.source bytes
        → keys_of bytes ≡ record { keys = given; ending = by }
    pub played : ArePlayed
    pub source : SourceStays old new

  -- the keys came to the end of all bytes, in a dialog or outside
  pub record AtEnd (is_open : Bool) : Type 0 where
    pub all : AreAll ending.End
    pub whole : (bytes : List ℕ) → MayGive old.source new.source bytes → bytes ≡ taken
    pub leaves : (pages : P) → Are pages → (play pages given).is_open ≡ is_open

  -- with each status, and with no other
  pub data Ends : Status → Type 0 where
    done : AtEnd false → Ends Done
    open_dialog : AtEnd true → Ends OpenDialog
    -- a line is no key line; out of memory is no fault of a line
    bad_key : (line : ℕ) (fault : KeyFault) → fault ≢ key.NoMemory
        → AreAll (ending.BadKey line fault) → Ends (BadKey line fault)
    -- there is one byte past the limit, and no more were taken
    too_many_keys : length taken ≡ KEYS_LIMIT + 1 → AreAll ending.TooManyKeys → Ends TooManyKeys
    -- the source failed, where more was to come
    read_fault : old.source.faults < new.source.faults
        → keys_at ending.ReadFault taken ≡ record { keys = given; ending = ending.ReadFault }
        → ArePlayed → Ends KeyReadFault
    -- the store failed, or the sink, as the last key was handled, before the next read began; or as
    -- that was done which is done before the first, and nothing was read
    store_fault : old.pages.faults < new.pages.faults → SourceStays old new → SinkStays old new
        → IsAtLast old.source new.source taken given
        → ((pages : P) → Are pages → StopsAtStore (play pages) given old new) → Ends StoreFault
    write_fault : old.sink.faults < new.sink.faults → SourceStays old new → StoreStays old new
        → IsAtLast old.source new.source taken given
        → ((pages : P) → Are pages → StopsAtSink (play pages) given old new) → Ends WriteFault
    -- memory ran out
    no_memory : SourceStays old new → SinkStays old new
        → ((pages : P) → Are pages → StopsForMemory (play pages) given old new) → Ends NoMemory

-- ---- all of it

-- keys that come to this over these pages are read and played, from the outside before to the
-- outside after, and the status
pub record Browses {P : Type 0} (Are : P → Type 0) (play : P → List Key → Step)
    (old new : Outside) (status : Status) : Type 0 where
  -- one after the other these keys were given, of bytes that were taken: no key waits for a read,
  -- no more bytes are taken than one too many, and the source gives its end once at most
  pub taken : List ℕ
  pub given : List Key
  pub reads : HasGiven old.source new.source taken given
  pub ends : Ends Are play old new taken given status
  -- with any status no more was written than a prefix of the lines of all keys, whatever the bytes
  -- may be
  pub prefix : (bytes : List ℕ) → MayGive old.source new.source bytes → (pages : P) → Are pages
      → AppendsPrefix old.sink.taken new.sink.taken (bytes_of (play pages (keys_of bytes).keys))
  -- the pages stay, no names were listed, and no count fell
  pub stays : Stays old.pages new.pages
  pub read_counts : old.source.faults ≤ new.source.faults
  pub write_counts : old.sink.faults ≤ new.sink.faults

-- the same over any pages that those that are seen may be afterwards
abbrev pub BrowsesSeen : Play → Outside → Outside → Status → Type 0
BrowsesSeen play old new status = Browses (AreUnitPages new.pages) play old new status
