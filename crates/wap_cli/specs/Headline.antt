-- What a run comes to, by its command. This project's own.
use Rattle.std.specs.Prelude.{◌≡◌, ◌⊎◌, ℕ, ◌≤◌, false, List, Option, Some, None, ◌<◌, ◌+◌}
use Rattle.wap_devices.specs.Stores.{StoreSeen, Grew}
use Rattle.wap_devices.specs.Sinks.{SinkSeen}
use Rattle.wap_pages.specs.declared.fault.PageFault.{PageFault}
use Rattle.wap_keys.specs.declared.words.words.Browse.{Browse as Browsing}
use Rattle.wap_keys.specs.declared.words.words.Command.{Command}
use Rattle.wap_keys.specs.declared.words.words.Replay.{Replay as Replaying}
use Rattle.wap_keys.specs.declared.words.words.Command.TheVariants.{Browse, Image, Resume, Page}
use Rattle.wap_keys.specs.declared.words.words.Command.TheVariants.{Prepare, Make, Replay}
use Rattle.wap_keys.specs.declared.words.words.PageCommand.{PageCommand}
use Rattle.wap_world.specs.Sessions.{Begun}
use Rattle.wap_cli.specs.declared.status.Status.{Status}
use Rattle.wap_cli.specs.declared.status.Status.TheVariants.{Usage, Refused, StoreFault, NoMemory}
use Rattle.wap_cli.specs.Statuses.{IsOrWants}
use Rattle.wap_cli.specs.Answers.{IsPageOf, Answers}
use Rattle.wap_pages.specs.Memory.{is_of_memory}
use Rattle.wap_cli.specs.Browsing.{BrowsesOver}
use Rattle.wap_cli.specs.Devices.{Devices}
use Rattle.wap_cli.specs.Replaying.{ReplaysOver}
use Rattle.wap_cli.specs.SavedSessions.{ImagesOver, ResumesOver}
use Rattle.wap_cli.specs.Folders.{PreparesUnread, MakesAlone}

-- what a command browses
abbrev pub begun_by : Browsing → Begun
begun_by one =
    record { url = one.url; seed = one.seed; budget = one.budget; limits = one.limits }

-- what each session is begun with that a command replays
abbrev pub each_begun_by : Replaying → Begun
each_begun_by one =
    record { url = one.url; seed = one.seed; budget = one.budget; limits = one.limits }

-- how a command ends on the page of a name, with each status, and with no other
pub data ServesTo (command : PageCommand) (name : List ℕ) (store store_after : StoreSeen)
    (sink sink_after : SinkSeen) : Status → Type 0 where
  -- it did its work on some page, which is that of the name in any pages that may be the store's
  answered : (status : Status) (page : Option (List ℕ))
      → IsPageOf store_after.known name page → Answers command page sink sink_after status
      → store_after.faults ≡ store.faults → store_after.fetches ≡ store.fetches + 1
      → ServesTo command name store store_after sink sink_after status
  -- the store failed, and nothing was written
  store_fault : store.faults < store_after.faults
      → store_after.fetches ≡ store.fetches + 1 → sink_after ≡ sink
      → ServesTo command name store store_after sink sink_after StoreFault
  -- memory ran out, and nothing was written
  no_memory : sink_after ≡ sink
      → ServesTo command name store store_after sink sink_after NoMemory

-- a command on the page of a name: the store and the sink, before and after
pub record Serves (command : PageCommand) (name : List ℕ) (store store_after : StoreSeen)
    (sink sink_after : SinkSeen) (status : Status) : Type 0 where
  pub ends : ServesTo command name store store_after sink sink_after status
  -- out of memory is no reason to refuse
  pub of_reason : (fault : PageFault) → status ≡ Refused fault → is_of_memory fault ≡ false
  -- one page is asked for at most, and no names
  pub once : (store_after.fetches ≡ store.fetches)
      ⊎ (store_after.fetches ≡ store.fetches + 1)
  pub listings : store_after.listings ≡ store.listings
  -- what is known of the pages only grows, however it ends
  pub kept : Grew store.known store_after.known
  pub counts : store.faults ≤ store_after.faults

-- a command on the page of a name reads no key
pub record ServesUnread (command : PageCommand) (name : List ℕ) (old new : Devices)
    (status : Status) : Type 0 where
  pub serves : Serves command name old.store new.store old.sink new.sink status
  pub unread : new.source ≡ old.source

-- words that are no command: nothing is asked for, read or written
pub record Misused (old new : Devices) (status : Status) : Type 0 where
  pub ends : IsOrWants Usage status
  pub untouched : new ≡ old

-- a run of a command, or of words that are none, from the devices before to the devices after, and
-- its status; it is the same by however many workers a folder is prepared, or lists are replayed
abbrev pub Runs : Option Command → Devices → Devices → Status → Type 0
Runs (Some (Browse one)) old new status =
    BrowsesOver (begun_by one) one.cache old new status
Runs (Some (Image one)) old new status = ImagesOver (begun_by one) one.cache old new status
Runs (Some (Resume one)) old new status = ResumesOver one.name one.cache old new status
Runs (Some (Page command name)) old new status = ServesUnread command name old new status
Runs (Some (Prepare workers)) old new status = PreparesUnread old new status
Runs (Some (Make n)) old new status = MakesAlone n old new status
Runs (Some (Replay one)) old new status = ReplaysOver (each_begun_by one) old new status
Runs None old new status = Misused old new status
