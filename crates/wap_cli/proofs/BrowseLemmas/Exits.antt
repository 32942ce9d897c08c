-- How a session comes to its end.
use Rattle.std.proofs.Common.{◌≡◌, ◌≢◌, ℕ, ◌≤◌, List, [], ◌∷◌, ◌++◌, Option, Some, None}
use Rattle.std.proofs.Common.{length, refl, sym, ap, subst, ◌∙◌, inl, inr, arith}
use Rattle.std.specs.Prelude.{Bool, true, false, is_some, Ok, ◌<◌}
use Rattle.std.proofs.lemmas.List.{append-nil}
use Rattle.wap_devices.specs.Sources.{SourceSeen, MayGive}
use Rattle.wap_devices.specs.Sinks.{SinkSeen}
use Rattle.wap_devices.specs.Transfer.{AppendsPrefix}
use Rattle.wap_devices.proofs.Transfers.{Appends-nil}
use Rattle.wap_base.specs.declared.key.Key.{Key}
use Rattle.wap_keys.specs.declared.ending.Ending.{Ending}
use Rattle.wap_keys.specs.declared.ending.Ending.TheVariants as way
use Rattle.wap_keys.specs.declared.ending.Next.TheVariants as next
use Rattle.wap_keys.specs.Lines.{Keys, keys_of}
use Rattle.wap_keys.specs.Read.{AreFirst, IsAtLast, HasGiven, IsRead}
use Rattle.wap_keys.specs.KeyReaders.{Reading, Answers, GivesUp, CountsFaults}
use Rattle.wap_keys.proofs.GivingLaws.{may_split, none_to_come}
use Rattle.wap_keys.proofs.ReaderLaws.{begun as nothing_read, given_of, gives_up_at_once}
use Rattle.wap_keys.proofs.WholeLaws.{known_of}
use Rattle.wap_keys.proofs.FaultLaws.{ended_counts}
use Rattle.wap_pages.specs.declared.fault.PageFault.{PageFault}
use Rattle.wap_world.specs.site.Pages.{Pages as JudgedPages}
use Rattle.wap_world.specs.site.Asking.{Seen, MayBe, Stays}
use Rattle.wap_world.proofs.SiteLemmas.Asking.{Stays-same, Stays-then, Stays-may}
use Rattle.wap_world.specs.Steps.{Step, then_step}
use Rattle.wap_world.specs.scripting.UnitSites.{Pages, unit_pages}
use Rattle.wap_world.specs.scripting.Waiting.{Waits}
use Rattle.wap_session.specs.Feeding.{left_open, State, step_of}
use Rattle.wap_cli.specs.declared.status.Status.{Status}
use Rattle.wap_cli.specs.declared.status.Status.TheVariants.{Done, Refused, StoreFault}
use Rattle.wap_cli.specs.declared.status.Status.TheVariants.{WriteFault, NoMemory}
use Rattle.wap_cli.specs.browse.Outside.{Outside}
use Rattle.wap_cli.specs.browse.Plays.{Play, AreUnitPages}
use Rattle.wap_cli.specs.browse.Handling.{bytes_of, IsPlayed}
use Rattle.wap_cli.specs.browse.Endings.{ended}
use Rattle.wap_cli.specs.browse.Headline.{ArePlayed, AreAll, Ends, BrowsesSeen}
use Rattle.wap_cli.specs.browse.Stopping.{StopsAtStore, StopsAtSink, StopsForMemory}
use Rattle.wap_cli.specs.browse.Resting.{StandsAfter, Rests}
use Rattle.wap_cli.specs.browse.inside.Played.{Moment, Stops}
use Rattle.wap_cli.specs.browse.Standing.{Moved, moved_of, outside_of}
use Rattle.wap_cli.proofs.BrowseLemmas.Stepping.{open_there, world_there}
use Rattle.wap_cli.proofs.BrowseLemmas.Going.{moment_of, played_to, Nears, Comes, comes_next}
use Rattle.wap_cli.proofs.BrowseLemmas.Going.{Reaches}
use Rattle.wap_cli.proofs.BrowseLemmas.Stopped.{prefix_played, read_runs_out, prefix_unwritten}
use Rattle.wap_cli.proofs.BrowseLemmas.Stopped.{wrote_before}
use Rattle.wap_cli.proofs.BrowseLemmas.Stopped.{missed_there, prefix_part, wrote_part, asked_there}

-- a count rose since it stood as before
rose_from : (before now after : ℕ) → now ≡ before → now < after → before < after
rose_from before now after is rose = subst (λ (count : ℕ). count < after) is rose

-- what holds of judged pages holds of the units that they are
over_units : (seen : Seen) (Fact : Pages → Type 0)
    → ((judged : JudgedPages) → MayBe seen judged → Fact (unit_pages judged))
    → (pages : Pages) → AreUnitPages seen pages → Fact pages
over_units seen Fact so pages (judged, may, is) = subst Fact (sym is) (so judged may)

-- ---- the keys came to their end

module _ (play : Play) (old last : Outside) (taken : List ℕ) (given : List Key)
    (played : ArePlayed (AreUnitPages last.pages) play old last taken given) where
  -- unless the source failed they are those of all bytes
  are_all : (ending : Ending) → IsRead old.source last.source taken given ending
      → ending ≢ way.ReadFault → last.source.faults ≡ old.source.faults
      → AreAll (AreUnitPages last.pages) play old last taken given ending
  are_all ending read unfailing steady = record {
    all = known_of old.source last.source taken given ending read unfailing;
    played = played;
    source = steady;
  }

  -- and where it gave its end, all bytes were taken
  all_taken : IsRead old.source last.source taken given way.End
      → (bytes : List ℕ) → MayGive old.source last.source bytes → bytes ≡ taken
  all_taken read bytes may =
      may_split old.source last.source taken bytes read.given.takes may
      ∙ ap (λ (rest : List ℕ). taken ++ rest)
      (none_to_come old.source last.source bytes may read.ends.0)
      ∙ append-nil taken

  -- so the session ends, by whether a dialog is open there
  ends_by : (is_open : Bool) (ending : Ending) → IsRead old.source last.source taken given ending
      → CountsFaults old.source.faults last.source.faults (Ok (next.Ended ending))
      → ((pages : Pages) → AreUnitPages last.pages pages → (play pages given).is_open ≡ is_open)
      → Ends (AreUnitPages last.pages) play old last taken given (ended is_open ending)
  ends_by false way.End read counts leaves = Ends.done (record {
    all = are_all way.End read (λ e. absurd cc) counts;
    whole = all_taken read;
    leaves = leaves;
  })
  ends_by true way.End read counts leaves = Ends.open_dialog (record {
    all = are_all way.End read (λ e. absurd cc) counts;
    whole = all_taken read;
    leaves = leaves;
  })
  ends_by is_open (way.BadKey line fault) read counts leaves =
      Ends.bad_key line fault read.ends.0
      (are_all (way.BadKey line fault) read (λ e. absurd cc) counts)
  ends_by is_open way.TooManyKeys read counts leaves =
      Ends.too_many_keys read.ends.0 (are_all way.TooManyKeys read (λ e. absurd cc) counts)
  ends_by is_open way.ReadFault read counts leaves =
      Ends.read_fault counts read.ends.1 played

-- all keys that were given were played, and no more are
pub ended_browses : (play : Play) (old now : Outside) (reader after : Reading) (state : State)
    (source : SourceSeen) (ending : Ending) → Reaches play old now reader state
    → Answers now.source source reader after (next.Ended ending)
    → CountsFaults now.source.faults source.faults (Ok (next.Ended ending))
    → BrowsesSeen play old (record now { source = source }) (ended (is_some state.waiting) ending)
ended_browses play old now reader after state source ending reaches answers counts =
    let given = reaches.given in
    let (more, read) = answers old.source reaches.taken given reaches.read in
    let taken = reaches.taken ++ more in
    let last : Outside = record now { source = source } in
    let stands = reaches.browsed.stands in
    record {
      taken = taken;
      given = given;
      reads = read.given;
      ends = ends_by play old last taken given
          (record {
            played = over_units now.pages (λ pages. IsPlayed (play pages) given old last)
                (λ judged may. record {
                  wrote = (stands judged may).wrote;
                  asked = (stands judged may).asks.fetches;
                });
            store = reaches.browsed.steady;
            sink = reaches.browsed.write_steady;
          })
          (is_some state.waiting) ending read
          (subst (λ (count : ℕ). CountsFaults count source.faults (Ok (next.Ended ending)))
          reaches.read.steady counts)
          (over_units now.pages (λ pages. (play pages given).is_open ≡ is_some state.waiting)
          (λ judged may. let pages = unit_pages judged in
          open_there pages (play pages) given state (stands judged may).on));
      prefix = λ bytes gives. over_units now.pages
          (λ pages. AppendsPrefix old.sink.taken now.sink.taken
          (bytes_of (play pages (keys_of bytes).keys)))
          (λ judged may. let pages = unit_pages judged in
          prefix_played pages (play pages) given (keys_of bytes).keys (moved_of old) (moved_of now)
          state (stands judged may) (read.given.of_all bytes gives));
      stays = reaches.browsed.stays;
      read_counts = omega (
        arith,
        ended_counts ending now.source.faults source.faults counts,
        reaches.read.steady,
      );
      write_counts = omega (arith, reaches.browsed.write_steady);
    }

-- Done says that the keys ended, outside a dialog
done_so : (waiting : Option Waits) (ending : Ending) → ended (is_some waiting) ending ≡ Done
    → (waiting ≡ None) × (ending ≡ way.End)
done_so None way.End is = (refl, refl)
done_so (Some one) way.End is = absurd cc
done_so waiting _ is = absurd cc

-- a step outside a dialog leaves none open
left_closed : (step : Step) → step.is_open ≡ false → left_open step ≡ step
left_closed step is = λ i. record step { is_open = sym is i }

-- and then the session stands where they lead
pub ended_rests : (play : Play) (old now : Outside) (reader after : Reading) (state : State)
    (source : SourceSeen) (ending : Ending) → Reaches play old now reader state
    → Answers now.source source reader after (next.Ended ending)
    → ended (is_some state.waiting) ending ≡ Done
    → Rests play old (record now { source = source }) state
ended_rests play old now reader after state source ending reaches answers done =
    let given = reaches.given in
    let (more, read) = answers old.source reaches.taken given reaches.read in
    let (alone, at) = done_so state.waiting ending done in
    record {
      waiting = alone;
      ready = reaches.browsed.ready;
      stands = λ bytes may judged is.
          let pages = unit_pages judged in
          let stands = reaches.browsed.stands judged is in
          let all = known_of old.source source (reaches.taken ++ more) given ending read
          (λ e. let other = sym at ∙ e in absurd cc) bytes may in
          let closed = open_there pages (play pages) given state stands.on
          ∙ ap (λ (waits : Option Waits). is_some waits) alone in
          subst (λ (keys : Keys). StandsAfter pages (play pages) keys.keys state) (sym all)
          (record {
            outside = closed;
            world = world_there pages (play pages) given state stands.on;
            over = stands.over;
            on = λ others. stands.on others
                ∙ ap (λ (s : Step). then_step s (step_of pages others state))
                (left_closed (play pages given) closed);
            unpushed = stands.unpushed;
          });
    }

-- ---- memory ran out as keys were read

-- all keys that were given were played
pub reader_runs_out : (play : Play) (old now : Outside) (reader : Reading) (state : State)
    (source : SourceSeen) → Reaches play old now reader state
    → GivesUp now.source source reader → source.faults ≡ now.source.faults
    → BrowsesSeen play old (record now { source = source }) NoMemory
reader_runs_out play old now reader state source reaches gives steady =
    let given = reaches.given in
    let (more, has) = gives old.source reaches.taken given reaches.read in
    let last : Outside = record now { source = source } in
    let stands = reaches.browsed.stands in
    record {
      taken = reaches.taken ++ more;
      given = given;
      reads = has;
      ends = Ends.no_memory (steady ∙ reaches.read.steady) reaches.browsed.write_steady
          (over_units now.pages (λ pages. StopsForMemory (play pages) given old last)
          (λ judged may. let pages = unit_pages judged in
          read_runs_out pages (play pages) given old last (moved_of old) (moved_of now) state refl
          refl (stands judged may)));
      prefix = λ bytes gives. over_units now.pages
          (λ pages. AppendsPrefix old.sink.taken now.sink.taken
          (bytes_of (play pages (keys_of bytes).keys)))
          (λ judged may. let pages = unit_pages judged in
          prefix_played pages (play pages) given (keys_of bytes).keys (moved_of old) (moved_of now)
          state (stands judged may) (has.of_all bytes gives));
      stays = reaches.browsed.stays;
      read_counts = omega (arith, steady, reaches.read.steady);
      write_counts = omega (arith, reaches.browsed.write_steady);
    }

-- or before the first
pub none_read : (play : Play) (old now : Outside) (reader : Reading) (state : State)
    → Reaches play old now reader state → BrowsesSeen play old now NoMemory
none_read play old now reader state reaches =
    reader_runs_out play old now reader state now.source reaches
    (gives_up_at_once now.source reader) refl

-- ---- a key stopped it

-- a sink that stays has failed as often as before
sink_steady : (before now after : SinkSeen) → now.faults ≡ before.faults → after ≡ now
    → after.faults ≡ before.faults
sink_steady before now after is stays = ap (λ (s : SinkSeen). s.faults) stays ∙ is

-- a key that is next, and the source of which these keys were read
module _ (play : Play) (given : List Key) (key : Key) (taken : List ℕ) (old : Outside)
    (now : Moved) (state : State) (source : SourceSeen) (new : Moment)
    (comes : Comes play given key (moved_of old) now state)
    (has : HasGiven old.source source taken given)
    (at_last : IsAtLast old.source source taken given)
    (unfailing : source.faults ≡ old.source.faults) where
  abbrev last : Outside
  last = outside_of (played_to new) source

  -- what holds over the pages there may be
  near : Stays now.pages new.pages → (Fact : Pages → Type 0)
      → ((judged : JudgedPages)
      → Nears (unit_pages judged) (play (unit_pages judged)) given key (moved_of old) now state
      → MayBe new.pages judged → Fact (unit_pages judged))
      → (pages : Pages) → AreUnitPages new.pages pages → Fact pages
  near stays Fact so =
      over_units new.pages Fact
      (λ judged may. so judged (comes.nears judged (Stays-may now.pages new.pages stays judged may))
      may)

  -- what all stops share
  stopped_by : (status : Status) → Stays now.pages new.pages
      → Ends (AreUnitPages new.pages) play old last taken given status
      → ((bytes : List ℕ) → AreFirst given (keys_of bytes).keys → (judged : JudgedPages)
      → Nears (unit_pages judged) (play (unit_pages judged)) given key (moved_of old) now state
      → MayBe new.pages judged → AppendsPrefix old.sink.taken new.sink.taken
      (bytes_of (play (unit_pages judged) (keys_of bytes).keys)))
      → old.sink.faults ≤ new.sink.faults → BrowsesSeen play old last status
  stopped_by status stays ends prefix counts = record {
    taken = taken;
    given = given;
    reads = has;
    ends = ends;
    prefix = λ bytes gives. near stays
        (λ pages. AppendsPrefix old.sink.taken new.sink.taken
        (bytes_of (play pages (keys_of bytes).keys)))
        (prefix bytes (has.of_all bytes gives));
    stays = Stays-then old.pages now.pages new.pages comes.stays stays;
    read_counts = omega (arith, unfailing);
    write_counts = counts;
  }

  -- nothing of the key's lines was written
  unwritten_by : (status : Status) → Stays now.pages new.pages → new.sink ≡ now.sink
      → Ends (AreUnitPages new.pages) play old last taken given status
      → BrowsesSeen play old last status
  unwritten_by status stays unwritten ends =
      stopped_by status stays ends
      (λ bytes first judged nears may. let pages = unit_pages judged in
      prefix_unwritten pages (play pages) given key (moved_of old) now state nears
      (keys_of bytes).keys new.sink unwritten first)
      (let steady = sink_steady old.sink now.sink new.sink comes.write_steady unwritten in
      omega (arith, steady))

  -- by status
  pub stop_browses : (status : Status) → Stops key (moment_of now state) new status
      → BrowsesSeen play old last status
  stop_browses status (Stops.at_store so) =
      unwritten_by StoreFault so.stays so.unwritten
      (Ends.store_fault
      (rose_from old.pages.faults now.pages.faults new.pages.faults comes.steady so.rose)
      unfailing (sink_steady old.sink now.sink new.sink comes.write_steady so.unwritten) at_last
      (near so.stays (λ pages. StopsAtStore (play pages) given old last)
      (λ judged nears may. let pages = unit_pages judged in
      record {
        wrote = wrote_before pages (play pages) given key (moved_of old) now state nears new.sink
            so.unwritten;
        asked = missed_there pages (play pages) given key (moved_of old) now state nears new
            (so.missed judged may nears.over);
      })))
  stop_browses status (Stops.at_sink so) =
      stopped_by WriteFault so.stays
      (Ends.write_fault
      (rose_from old.sink.faults now.sink.faults new.sink.faults comes.write_steady so.rose)
      unfailing (so.steady ∙ comes.steady) at_last
      (near so.stays (λ pages. StopsAtSink (play pages) given old last)
      (λ judged nears may. let pages = unit_pages judged in
      let leads = so.leads judged may nears.over in
      record {
        wrote = wrote_part pages (play pages) given key (moved_of old) now state nears new leads;
        asked = asked_there pages (play pages) given key (moved_of old) now state nears new leads;
      })))
      (λ bytes first judged nears may. let pages = unit_pages judged in
      prefix_part pages (play pages) given key (moved_of old) now state nears
      (keys_of bytes).keys new (so.leads judged may nears.over) first)
      (omega (arith, comes.write_steady, so.counts))
  stop_browses status (Stops.for_memory so) =
      unwritten_by NoMemory so.stays so.unwritten
      (Ends.no_memory unfailing
      (sink_steady old.sink now.sink new.sink comes.write_steady so.unwritten)
      (near so.stays (λ pages. StopsForMemory (play pages) given old last)
      (λ judged nears may. let pages = unit_pages judged in
      record {
        count = length given;
        least = omega arith;
        most = omega arith;
        wrote = wrote_before pages (play pages) given key (moved_of old) now state nears new.sink
            so.unwritten;
      })))

-- a key that stops it isn't Done
pub stop_undone : (status : Status) (key : Key) (old new : Moment) → Stops key old new status
    → status ≢ Done
stop_undone status key old new (Stops.at_store so) is = absurd cc
stop_undone status key old new (Stops.at_sink so) is = absurd cc
stop_undone status key old new (Stops.for_memory so) is = absurd cc

-- ---- at a key that was read, and at the first

-- a key that was read
pub read_stops : (play : Play) (old now : Outside) (reader after : Reading) (state : State)
    (key : Key) (source : SourceSeen) (new : Moment) (status : Status)
    → Reaches play old now reader state
    → Answers now.source source reader after (next.Key key)
    → Stops key (moment_of (moved_of now) state) new status
    → BrowsesSeen play old (outside_of (played_to new) source) status
read_stops play old now reader after state key source new status reaches answers so =
    let (more, (read, just)) = answers old.source reaches.taken reaches.given reaches.read in
    let given = reaches.given ++ key ∷ [] in
    let taken = reaches.taken ++ more in
    stop_browses play given key taken old (moved_of now) state source new
    (comes_next play reaches.given key (moved_of old) (moved_of now) state reaches.browsed)
    (given_of old.source source taken given after read) (inr (reaches.given, key, refl, just))
    read.steady status so

-- one before any was read
pub first_stops : (play : Play) (old : Outside) (now : Moved) (state : State) (key : Key)
    (new : Moment) (status : Status)
    → Comes play [] key (moved_of old) now state → Stops key (moment_of now state) new status
    → BrowsesSeen play old (outside_of (played_to new) old.source) status
first_stops play old now state key new status comes so =
    stop_browses play [] key [] old now state old.source new comes
    (given_of old.source old.source [] [] _ (nothing_read old.source [] refl))
    (inl (record { stays = refl; none_taken = refl; none_given = refl })) refl status so

-- nor is it refused
pub unrefused : (play : Play) (old new : Outside) (status : Status)
    → BrowsesSeen play old new status → (fault : PageFault) → status ≢ Refused fault
unrefused play old new status so fault is =
    none (subst (Ends (AreUnitPages new.pages) play old new so.taken so.given) is so.ends)
  where
    none : ¬ Ends (AreUnitPages new.pages) play old new so.taken so.given (Refused fault)
    none ends = elim ends [ ]

-- ---- memory ran out before anything was done

-- nothing was done
pub nothing_browses : (play : Play) (old : Outside) → BrowsesSeen play old old NoMemory
nothing_browses play old = record {
  taken = [];
  given = [];
  reads = given_of old.source old.source [] [] _ (nothing_read old.source [] refl);
  ends = Ends.no_memory refl refl (λ pages may. record {
    count = 0;
    least = omega arith;
    most = omega arith;
    wrote = Appends-nil old.sink.taken;
  });
  prefix = λ bytes gives pages may.
      ([], bytes_of (play pages (keys_of bytes).keys), refl, Appends-nil old.sink.taken);
  stays = Stays-same old.pages;
  read_counts = omega arith;
  write_counts = omega arith;
}
