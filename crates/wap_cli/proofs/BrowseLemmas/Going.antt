-- A session that goes on, key by key.
use Rattle.std.proofs.Common.{◌≡◌, ℕ, false, List, [], ◌∷◌, ◌++◌, length}
use Rattle.std.proofs.Common.{refl, sym, ap, subst, ◌∙◌, append_assoc}
use Rattle.std.proofs.lemmas.List.{append-nil}
use Rattle.wap_devices.specs.Transfer.{Appends}
use Rattle.wap_devices.specs.Sources.{SourceSeen}
use Rattle.wap_devices.proofs.Transfers.{Appends-then, Appends-nil}
use Rattle.wap_base.specs.declared.key.Key.{Key}
use Rattle.wap_base.specs.declared.key.Key.TheVariants.{Open}
use Rattle.wap_keys.specs.declared.ending.Next.TheVariants as next
use Rattle.wap_keys.specs.KeyReaders.{Reading, HasRead, Answers}
use Rattle.wap_world.specs.site.Pages.{Pages as JudgedPages}
use Rattle.wap_world.specs.site.Misses.{Asked}
use Rattle.wap_world.specs.site.Asking.{MayBe, Stays, Asks}
use Rattle.wap_world.proofs.SiteLemmas.Asking.{Asks-nil, Asks-then, Stays-same, Stays-then}
use Rattle.wap_world.proofs.SiteLemmas.Asking.{Stays-may}
use Rattle.wap_world.specs.Steps.{Step, then_step, quiet, still}
use Rattle.wap_world.specs.Sessions.{Begun, world_of}
use Rattle.wap_world.proofs.Joining.{joined_assoc}
use Rattle.wap_world.specs.scripting.UnitSites.{Pages, shelf_of, unit_pages}
use Rattle.wap_context.specs.Browsers.{IsOver}
use Rattle.wap_session.specs.Feeding.{left_open, State, beginning, step_of}
use Rattle.wap_cli.specs.browse.Outside.{Outside}
use Rattle.wap_cli.specs.browse.Plays.{Play, opened, IsNoPush, HaveNoPush}
use Rattle.wap_cli.specs.browse.Handling.{bytes_of, first_lines, first_asked}
use Rattle.wap_cli.specs.browse.inside.Played.{Moment, Leads, GoesOn}
use Rattle.wap_cli.specs.browse.Standing.{Moved, moved_of, outside_of, Stands, Browsed}
use Rattle.wap_cli.proofs.BrowseLemmas.Stepping.{asked_joined, bytes_joined}
use Rattle.wap_cli.proofs.BrowseLemmas.Firsts.{lines_before, asked_before}

-- ---- what is seen

-- what a key may move
abbrev pub moment_of : Moved → State → Moment
moment_of now state = record { pages = now.pages; state = state; sink = now.sink }

-- what a key moved
abbrev pub played_to : Moment → Moved
played_to moment = record { pages = moment.pages; sink = moment.sink }

-- ---- a key that is next

-- over these pages: these keys were given, and this key isn't played yet, the last of them or one
-- before the first
pub record Nears (pages : Pages) (play : List Key → Step) (given : List Key) (key : Key)
    (old now : Moved) (state : State) : Type 0 where
  pub over : IsOver (shelf_of pages) state.browser
  -- what was done before it
  pub before : Step
  pub lines : first_lines play given (length given) ≡ bytes_of before
  pub asked : first_asked play given (length given) ≡ before.asked
  pub on : (others : List Key) → play (given ++ others)
      ≡ then_step (left_open before) (step_of pages (key ∷ others) state)
  pub asks : Asks before.asked old.pages now.pages
  pub wrote : Appends old.sink.taken now.sink.taken (bytes_of before)
  pub unpushed : HaveNoPush given → IsNoPush key × (state.winners ≡ [])

-- so far nothing failed, and this key is next
pub record Comes (play : Play) (given : List Key) (key : Key) (old now : Moved) (state : State)
    : Type 0 where
  pub nears : (judged : JudgedPages) → MayBe now.pages judged
      → Nears (unit_pages judged) (play (unit_pages judged)) given key old now state
  pub stays : Stays old.pages now.pages
  pub steady : now.pages.faults ≡ old.pages.faults
  pub write_steady : now.sink.faults ≡ old.sink.faults

-- ---- beginnings

-- the URL that is opened is next
pub opens_first : (begun : Begun) (old : Moved) (state : State) → state ≡ beginning begun
    → Comes (opened begun) [] (Open begun.url) old old state
opens_first begun old state is =
    subst (Comes (opened begun) [] (Open begun.url) old old) (sym is) (record {
      nears = λ judged may. record {
        over = refl;
        before = quiet [] (still (world_of begun));
        lines = refl;
        asked = refl;
        on = λ others. refl;
        asks = Asks-nil old.pages;
        wrote = Appends-nil old.sink.taken;
        unpushed = λ none. (λ bytes is. absurd cc, refl);
      };
      stays = Stays-same old.pages;
      steady = refl;
      write_steady = refl;
    })

-- of keys of which none is a push the last is none, and none of those before it
apart : (given : List Key) (key : Key) → HaveNoPush (given ++ key ∷ [])
    → HaveNoPush given × IsNoPush key
apart [] key none = (tt, none.0)
apart (one ∷ given) key none = let rest = apart given key none.1 in ((none.0, rest.0), rest.1)

-- a key that was read is next
nears_next : (pages : Pages) (play : List Key → Step) (given : List Key) (key : Key)
    (old now : Moved) (state : State) → Stands pages play given old now state
    → Nears pages play (given ++ key ∷ []) key old now state
nears_next pages play given key old now state stands = record {
  over = stands.over;
  before = play given;
  lines = lines_before play given key;
  asked = asked_before play given key;
  on = λ others.
      ap play (append_assoc given (key ∷ []) others) ∙ stands.on (key ∷ others);
  asks = stands.asks;
  wrote = stands.wrote;
  unpushed = λ none.
      let both = apart given key none in (both.1, stands.unpushed both.0);
}

pub comes_next : (play : Play) (given : List Key) (key : Key) (old now : Moved) (state : State)
    → Browsed play given old now state → Comes play (given ++ key ∷ []) key old now state
comes_next play given key old now state browsed = record {
  nears = λ judged may.
      nears_next (unit_pages judged) (play (unit_pages judged)) given key old now state
      (browsed.stands judged may);
  stays = browsed.stays;
  steady = browsed.steady;
  write_steady = browsed.write_steady;
}

-- ---- a key that is played

module _ (pages : Pages) (play : List Key → Step) (given : List Key) (key : Key) (old now : Moved)
    (state : State) (nears : Nears pages play given key old now state) where
  -- what all that was given comes to with it
  pub whole : play given ≡ then_step (left_open nears.before) (step_of pages (key ∷ []) state)
  whole = ap play (sym (append-nil given)) ∙ nears.on []

  -- and with further keys, where it leads to another session
  pub beyond : (new : State) (others : List Key)
      → step_of pages (key ∷ others) state
      ≡ then_step (left_open (step_of pages (key ∷ []) state)) (step_of pages others new)
      → play (given ++ others) ≡ then_step (left_open (play given)) (step_of pages others new)
  beyond new others leads =
      let one = step_of pages (key ∷ []) state in
      nears.on others
      ∙ ap (then_step (left_open nears.before)) leads
      ∙ sym (joined_assoc (left_open nears.before) (left_open one) (step_of pages others new))
      ∙ sym (ap (λ (s : Step). then_step (left_open s) (step_of pages others new)) whole)

  -- one key further
  pub stands_after : (new : Moment) → Leads pages key (moment_of now state) new
      → Stands pages play given old (played_to new) new.state
  stands_after new leads =
      let one = step_of pages (key ∷ []) state in
      record {
        over = leads.over;
        on = λ others. beyond new.state others (leads.on others);
        asks = subst (λ (asked : List Asked). Asks asked old.pages new.pages)
            (sym (asked_joined (play given) nears.before one whole))
            (Asks-then nears.before.asked one.asked old.pages now.pages new.pages nears.asks
            leads.asks);
        wrote = subst (Appends old.sink.taken new.sink.taken)
            (sym (bytes_joined (play given) nears.before one whole))
            (Appends-then old.sink.taken now.sink.taken new.sink.taken
            (bytes_of nears.before) (bytes_of one) nears.wrote leads.wrote);
        unpushed = λ none.
            let before = nears.unpushed none in leads.unpushed before.0 before.1;
      }

-- the key was played, and its lines were written
pub browsed_after : (play : Play) (given : List Key) (key : Key) (old now : Moved) (state : State)
    (new : Moment) → Comes play given key old now state → GoesOn key (moment_of now state) new
    → Browsed play given old (played_to new) new.state
browsed_after play given key old now state new comes goes = record {
  stands = λ judged may.
      let pages = unit_pages judged in
      let nears = comes.nears judged (Stays-may now.pages new.pages goes.stays judged may) in
      stands_after pages (play pages) given key old now state nears new
      (goes.leads judged may nears.over);
  ready = goes.ready;
  stays = Stays-then old.pages now.pages new.pages comes.stays goes.stays;
  steady = goes.steady ∙ comes.steady;
  write_steady = goes.write_steady ∙ comes.write_steady;
}

-- ---- keys that are read

-- these keys were read and played, and nothing failed
pub record Reaches (play : Play) (old now : Outside) (reader : Reading) (state : State) : Type 0
  where
    pub given : List Key
    pub taken : List ℕ
    pub browsed : Browsed play given (moved_of old) (moved_of now) state
    pub read : HasRead old.source now.source taken given reader

-- before any was read
pub reaches_first : (play : Play) (old now : Outside) (reader : Reading) (state : State)
    → Browsed play [] (moved_of old) (moved_of now) state
    → HasRead old.source now.source [] [] reader → Reaches play old now reader state
reaches_first play old now reader state browsed read =
    record { given = []; taken = []; browsed = browsed; read = read }

-- the next was read, and played
pub reaches_more : (play : Play) (old now : Outside) (reader after : Reading) (state : State)
    (key : Key) (source : SourceSeen) (new : Moment)
    → Reaches play old now reader state
    → Answers now.source source reader after (next.Key key)
    → GoesOn key (moment_of (moved_of now) state) new
    → Reaches play old (record { pages = new.pages; source = source; sink = new.sink }) after
    new.state
reaches_more play old now reader after state key source new reaches answers goes =
    let (more, (read, just)) = answers old.source reaches.taken reaches.given reaches.read in
    record {
      given = reaches.given ++ key ∷ [];
      taken = reaches.taken ++ more;
      browsed = browsed_after play (reaches.given ++ key ∷ []) key (moved_of old) (moved_of now)
          state new
          (comes_next play reaches.given key (moved_of old) (moved_of now) state reaches.browsed)
          goes;
      read = read;
    }

-- wherever their playing began, the keys that were read since then lead from there to here
pub record Goes (start now : Outside) (reader : Reading) (first state : State) : Type 0 where
  pub ready : state.is_over ≡ false
  pub reaches : (play : Play) (from : Moved) → Browsed play [] from (moved_of start) first
      → Reaches play (outside_of from start.source) now reader state

pub goes_first : (start : Outside) (reader : Reading) (first : State) → first.is_over ≡ false
    → HasRead start.source start.source [] [] reader → Goes start start reader first first
goes_first start reader first ready read = record {
  ready = ready;
  reaches = λ play from began.
      reaches_first play (outside_of from start.source) start reader first began read;
}

pub goes_more : (start now : Outside) (reader after : Reading) (first state : State) (key : Key)
    (source : SourceSeen) (new : Moment) → Goes start now reader first state
    → Answers now.source source reader after (next.Key key)
    → GoesOn key (moment_of (moved_of now) state) new
    → Goes start (outside_of (played_to new) source) after first new.state
goes_more start now reader after first state key source new goes answers so = record {
  ready = so.ready;
  reaches = λ play from began.
      reaches_more play (outside_of from start.source) now reader after state key source new
      (goes.reaches play from began) answers so;
}
