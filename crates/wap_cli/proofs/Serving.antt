-- What a run comes to where memory runs out before anything is done.
use Rattle.std.proofs.Common.{◌≡◌, ℕ, false, List, Option, Some, None, Ok, Err, inl, inr}
use Rattle.std.proofs.Common.{refl, subst, arith}
use Rattle.std.specs.Prelude.{Result}
use Rattle.wap_devices.specs.Sinks.{SinkSeen}
use Rattle.wap_keys.specs.declared.words.words.Command.{Command}
use Rattle.wap_keys.specs.declared.words.words.Command.TheVariants.{Browse, Image, Resume, Page}
use Rattle.wap_keys.specs.declared.words.words.Command.TheVariants.{Prepare, Make, Replay}
use Rattle.wap_keys.specs.declared.words.words.PageCommand.{PageCommand}
use Rattle.wap_cli.specs.declared.status.Status.{Status}
use Rattle.wap_cli.specs.declared.status.Status.TheVariants.{Refused, StoreFault, NoMemory}
use Rattle.wap_devices.specs.Stores.{StoreSeen, Fetches}
use Rattle.wap_devices.specs.declared.store.Fetched.{Fetched}
use Rattle.wap_devices.specs.declared.store.StoreErr.{StoreErr}
use Rattle.wap_devices.specs.declared.store.StoreErr.TheVariants as store_error
use Rattle.wap_pages.specs.declared.fault.PageFault.{PageFault}
use Rattle.wap_devices.proofs.Telling.{grew_nothing}
use Rattle.wap_cli.specs.browse.Plays.{opened}
use Rattle.wap_cli.proofs.BrowseLemmas.Exits.{nothing_browses}
use Rattle.wap_pages.proofs.Fetching.{grew_asked}
use Rattle.wap_cli.proofs.ResumeLemmas.Fetching.{found_page}
use Rattle.wap_cli.proofs.ResumeLemmas.Going.{nothing_imaged, nothing_resumed}
use Rattle.wap_cli.specs.prepare.Preparing.{Reports}
use Rattle.wap_cli.proofs.PrepareLemmas.Ending.{nothing_done}
use Rattle.wap_cli.proofs.ReplayLemmas.Over.{nothing_replayed}
use Rattle.wap_cli.specs.Answers.{Answers, page_of}
use Rattle.wap_pages.specs.Memory.{is_of_memory}
use Rattle.wap_cli.specs.Writing.{Writes}
use Rattle.wap_cli.proofs.Writing.{writes_unrefused}
use Rattle.wap_cli.specs.Devices.{Devices}
use Rattle.wap_cli.specs.Headline.{begun_by, each_begun_by, ServesTo, Serves, ServesUnread, Runs}
use Rattle.wap_cli.proofs.Sourcing.{browses_over, fresh}
use Rattle.wap_cli.proofs.SourcedSessions.{images_over, resumes_over}
use Rattle.wap_cli.proofs.SourcedLists.{replays_over}

nothing_served : (command : PageCommand) (name : List ℕ) (old : Devices)
    → ServesUnread command name old old NoMemory
nothing_served command name old = record {
  serves = record {
    ends = ServesTo.no_memory refl;
    of_reason = λ fault e. absurd cc;
    once = inl refl;
    listings = refl;
    kept = grew_nothing old.store.known old.store.known refl;
    counts = omega arith;
  };
  unread = refl;
}

pub nothing_runs : (said : Option Command) (old : Devices) → Runs said old old NoMemory
nothing_runs None old = record { ends = inr refl; untouched = refl }
nothing_runs (Some (Browse one)) old =
    browses_over (begun_by one) one.cache old old NoMemory
    (nothing_browses (opened (begun_by one)) (fresh one.cache old))
nothing_runs (Some (Image one)) old =
    images_over one.cache old old NoMemory (begun_by one)
    (nothing_imaged (begun_by one) (fresh one.cache old))
nothing_runs (Some (Resume one)) old =
    resumes_over one.cache old old NoMemory one.name
    (nothing_resumed one.name (fresh one.cache old))
nothing_runs (Some (Page command name)) old = nothing_served command name old
nothing_runs (Some (Prepare workers)) old =
    record {
      prepares = nothing_done (λ Wrote. Reports Wrote old.store.known) old.store old.sink;
      unread = refl;
    }
nothing_runs (Some (Make n)) old =
    record { makes = Writes.no_memory refl; unasked = refl; unread = refl }
nothing_runs (Some (Replay one)) old =
    replays_over (each_begun_by one) old old NoMemory
    (nothing_replayed (each_begun_by one) old)

-- ---- what the store answered

-- a command that is refused isn't for want of memory
fault_of : (command : PageCommand) (page : Option (List ℕ)) (before after : SinkSeen)
    (status : Status) → Answers command page before after status → (fault : PageFault)
    → status ≡ Refused fault → is_of_memory fault ≡ false
fault_of command page before after status (Answers.writes one text is puts) fault refused =
    absurd (writes_unrefused (λ Wrote. Wrote text) before after one puts fault refused)
fault_of command page before after status (Answers.refused found reason plain none same) fault
    refused =
    let is : found ≡ fault = cc in
    subst (λ (why : PageFault). is_of_memory why ≡ false) is plain
fault_of command page before after status (Answers.no_memory same) fault refused = absurd cc

module _ (command : PageCommand) (name : List ℕ) (store store_after : StoreSeen)
    (sink sink_after : SinkSeen) where
  -- whatever the store answered, one page was asked for
  serves_by : (status : Status) (result : Result Fetched StoreErr)
      → Fetches name store store_after result
      → ((fault : PageFault) → status ≡ Refused fault → is_of_memory fault ≡ false)
      → (last : SinkSeen) → ServesTo command name store store_after sink last status
      → Serves command name store store_after sink last status
  serves_by status result fetches of_reason last ends = record {
    ends = ends;
    of_reason = of_reason;
    once = inr fetches.fetches;
    listings = fetches.listings;
    kept = grew_asked name store store_after result fetches;
    counts = fetches.asked.counts;
  }

  -- it answered, and the command did its work on that
  pub serves_page : (fetched : Fetched) (status : Status)
      → Fetches name store store_after (Ok fetched)
      → Answers command (page_of fetched) sink sink_after status
      → Serves command name store store_after sink sink_after status
  serves_page fetched status fetches answers =
      let page = page_of fetched in
      serves_by status (Ok fetched) fetches
      (fault_of command page sink sink_after status answers) sink_after
      (ServesTo.answered status page (found_page store_after.known name fetched fetches.found)
      answers fetches.asked.steady fetches.fetches)

  -- it failed
  pub serves_fault : Fetches name store store_after (Err store_error.Failed)
      → Serves command name store store_after sink sink StoreFault
  serves_fault fetches =
      serves_by StoreFault (Err store_error.Failed) fetches (λ fault is. absurd cc) sink
      (ServesTo.store_fault (fetches.asked.failed refl) fetches.fetches refl)

  -- memory ran out for its answer
  pub serves_no_memory : Fetches name store store_after (Err store_error.NoMemory)
      → Serves command name store store_after sink sink NoMemory
  serves_no_memory fetches =
      serves_by NoMemory (Err store_error.NoMemory) fetches (λ fault is. absurd cc) sink
      (ServesTo.no_memory refl)
