-- A key that is played: one that is no push leaves the inbox of a session as it is.
use Rattle.std.specs.Prelude.{◌<◌}
use Rattle.std.proofs.Common.{◌≡◌, ◌≤◌, ℕ, List, [], ◌∷◌, Option, None, Ok, refl, ap, subst}
use Rattle.std.proofs.Common.{◌∙◌}
use Rattle.wap_devices.specs.Transfer.{Appends, AppendsPrefix}
use Rattle.wap_base.specs.declared.key.Key.{Key}
use Rattle.wap_base.specs.declared.key.Key.TheVariants as key
use Rattle.wap_push.specs.declared.indication.Indication.{Indication}
use Rattle.wap_layout.specs.buffer.Written.{lines_bytes}
use Rattle.wap_world.specs.scripting.UnitSites.{Pages, unit_pages}
use Rattle.wap_world.specs.scripting.Waiting.{Waits}
use Rattle.wap_push.specs.Inbox.{HaveWinners}
use Rattle.wap_world.specs.inboxes.Inboxes.{Stepped}
use Rattle.wap_world.proofs.InboxesLemmas.Winning.{exactly}
use Rattle.wap_session.specs.Feeding.{State, stepped_of, Leads, Plays}
use Rattle.wap_session.specs.inside.Turns.{taken_by}
use Rattle.wap_session.proofs.Turning.{stepped_is}
use Rattle.wap_cli.specs.browse.Plays.{IsNoPush}
use Rattle.wap_cli.specs.browse.inside.Played.{Moment, GoesOn, FailsAtSink}

-- outside a dialog it takes none, and so in one
taken_none : (o : Option Waits) (winners : List Indication) (one : Key) → IsNoPush one
    → taken_by o winners one ≡ winners
taken_none None winners (key.Push bytes) other = absurd (other bytes refl)
taken_none _ winners one other = refl

-- so the pushes are as before
pushes_alone : (pages : Pages) (state : State) (one : Key) → IsNoPush one
    → (stepped_of pages (one ∷ []) state).pushes ≡ state.winners
pushes_alone pages state one other =
    ap (λ (x : Stepped). x.pushes) (stepped_is one state pages)
    ∙ taken_none state.waiting state.winners one other

-- no pushes have no winners
have_none : (winners : List Indication) → HaveWinners [] winners → winners ≡ []
have_none winners have = (exactly [] winners).0 have

-- and an inbox into which nothing was put stays so
unpushed : (pages : Pages) (one : Key) (old new : State) (lines : List (List ℕ))
    → Leads (one ∷ []) pages old new lines → IsNoPush one → old.winners ≡ []
    → new.winners ≡ []
unpushed pages one old new lines leads other none =
    have_none new.winners
    (subst (λ (pushes : List Indication). HaveWinners pushes new.winners)
    (pushes_alone pages old one other ∙ none) leads.inbox)

-- ---- a key that was played, and whose lines were written

module _ (one : Key) (old new : Moment) (lines : List (List ℕ))
    (plays : Plays (one ∷ []) old.pages new.pages old.state new.state (Ok lines)) where
  -- the session goes on
  pub goes_on : Appends old.sink.taken new.sink.taken (lines_bytes lines)
      → new.sink.faults ≡ old.sink.faults → GoesOn one old new
  goes_on wrote steady = record {
    leads = λ judged may is.
        let pages = unit_pages judged in
        let led = plays.leads judged may is in
        record {
          over = led.over;
          on = led.on;
          unpushed = unpushed pages one old.state new.state lines led;
          asks = plays.asks judged may is;
          wrote = subst
              (λ (shown : List (List ℕ)).
              Appends old.sink.taken new.sink.taken (lines_bytes shown)) led.tells wrote;
        };
    ready = plays.ready;
    stays = plays.stays;
    steady = plays.steady;
    write_steady = steady;
  }

  -- where a part of the lines was written, it stops
  pub stops_there : AppendsPrefix old.sink.taken new.sink.taken (lines_bytes lines)
      → old.sink.faults < new.sink.faults → old.sink.faults ≤ new.sink.faults
      → FailsAtSink one old new
  stops_there wrote rose counts = record {
    leads = λ judged may is.
        let led = plays.leads judged may is in
        record {
          on = led.on;
          asks = plays.asks judged may is;
          wrote = subst
              (λ (shown : List (List ℕ)).
              AppendsPrefix old.sink.taken new.sink.taken (lines_bytes shown)) led.tells wrote;
        };
    rose = rose;
    counts = counts;
    stays = plays.stays;
    steady = plays.steady;
  }
