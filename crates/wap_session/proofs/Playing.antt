-- Keys that are played one after the other.
use Rattle.std.proofs.Common.{◌≡◌, ℕ, ◌+◌, ◌<◌, length, get_or, take, drop, List, [], true}
use Rattle.std.proofs.Common.{◌∷◌, ◌++◌, false, Ok, Err, refl, sym, ap, subst, ◌∙◌, append_assoc}
use Rattle.std.proofs.lemmas.Bool.{false≢true}
use Rattle.std.proofs.lemmas.List.{map-append, take-append-drop, take_more, drop_more}
use Rattle.wap_base.specs.Controls.{shown_text}
use Rattle.wap_base.specs.declared.key.Key.{Key}
use Rattle.wap_push.specs.declared.indication.Indication.{Indication}
use Rattle.wap_push.specs.Inbox.{HaveWinners}
use Rattle.wap_world.specs.site.Misses.{Asked}
use Rattle.wap_world.specs.site.Asking.{Seen, Stays, Asks, Fails}
use Rattle.wap_world.proofs.SiteLemmas.Asking.{Asks-nil, Asks-then, Stays-same, Stays-then}
use Rattle.wap_world.proofs.SiteLemmas.Asking.{Stays-may}
use Rattle.std.specs.Prelude.{is_some}
use Rattle.wap_world.specs.Steps.{Step, then_step, quiet, still}
use Rattle.wap_world.proofs.Joining.{joined_assoc}
use Rattle.wap_world.specs.inboxes.Winners.{winners_of, Alike}
use Rattle.wap_world.specs.inboxes.Inboxes.{Stepped}
use Rattle.wap_world.specs.Sessions.{shown_by}
use Rattle.wap_world.proofs.InboxesLemmas.Winning.{exactly}
use Rattle.wap_world.specs.scripting.UnitSites.{Pages, unit_pages}
use Rattle.wap_context.specs.Sites.{IfOver}
use Rattle.wap_world.proofs.SiteLemmas.Failing.{Asks-fails}
use Rattle.wap_session.specs.declared.fault.SessionFault.{SessionFault}
use Rattle.wap_session.specs.declared.fault.SessionFault.TheVariants.{NoMemory, Ended}
use Rattle.wap_session.specs.Feeding.{State, stepped_of, step_of, left_open, PlaysOn, TakesOn}
use Rattle.wap_session.specs.Feeding.{ShowsOn, Leads, Plays, MissedAt}
use Rattle.wap_session.proofs.Alone.{none_played}

-- ---- what keys come to

-- further keys after some and one more
on_more : (pages : Pages) (done : List Key) (one : Key) (old now new : State)
    → PlaysOn done pages old now → PlaysOn (one ∷ []) pages now new
    → PlaysOn (done ++ one ∷ []) pages old new
on_more pages done one old now new came on others =
    ap (λ (keys : List Key). step_of pages keys old) (append_assoc done (one ∷ []) others)
    ∙ came (one ∷ others)
    ∙ ap (then_step (left_open (step_of pages done old))) (on others)
    ∙ sym (joined_assoc (left_open (step_of pages done old))
    (left_open (step_of pages (one ∷ []) now)) (step_of pages others new))
    ∙ sym (ap (λ (s : Step). then_step (left_open s) (step_of pages others new)) (came (one ∷ [])))

-- and the pushes that they take
takes_more : (pages : Pages) (done : List Key) (one : Key) (old now new : State)
    → TakesOn done pages old now → TakesOn (one ∷ []) pages now new
    → TakesOn (done ++ one ∷ []) pages old new
takes_more pages done one old now new came on others =
    ap (λ (keys : List Key). winners_of (stepped_of pages keys old).pushes)
    (append_assoc done (one ∷ []) others)
    ∙ came (one ∷ others)
    ∙ on others

-- what further keys show
pub tells_on : {keys : List Key} {pages : Pages} {old new : State} {lines : List (List ℕ)}
    → Leads keys pages old new lines → ShowsOn keys pages old new lines
tells_on {keys} {pages} {old} {new} led others =
    ap (λ (front : List (List ℕ)). front ++ shown_by (step_of pages others new)) led.tells
    ∙ sym (map-append shown_text (step_of pages keys old).lines (step_of pages others new).lines)
    ∙ sym (ap (λ (s : Step). shown_by s) (led.on others))

-- winners of pushes are those of pushes that have the same
have_alike : (pushes others winners : List Indication) → Alike pushes others
    → HaveWinners others winners → HaveWinners pushes winners
have_alike pushes others winners alike have =
    (exactly pushes winners).1 ((exactly others winners).0 have ∙ sym alike)

-- ---- none

-- nothing is shown, asked for or taken
stepped_none : (pages : Pages) (state : State) → stepped_of pages [] state ≡ record {
  step = record (quiet [] (still state.browser.world)) { is_open = is_some state.waiting };
  pushes = state.winners;
}
stepped_none pages state =
    none_played pages state.waiting
    (record { world = state.browser.world; pushes = state.winners })

pub step_none : (pages : Pages) (state : State) → step_of pages [] state
    ≡ record (quiet [] (still state.browser.world)) { is_open = is_some state.waiting }
step_none pages state = ap (λ (x : Stepped). x.step) (stepped_none pages state)

pub plays_none : (seen : Seen) (state : State) → state.is_over ≡ false
    → HaveWinners state.winners state.winners → Plays [] seen seen state state (Ok [])
plays_none seen state going own =
    let none = λ (pages : Pages). stepped_none pages state in
    record {
      leads = λ judged may is. let pages = unit_pages judged in record {
        world = sym (ap (λ (x : Stepped). x.step.world) (none pages));
        over = is;
        asks_user = sym (ap (λ (x : Stepped). x.step.is_open) (none pages));
        inbox = subst (λ (x : Stepped). HaveWinners x.pushes state.winners) (sym (none pages)) own;
        tells = sym (ap (λ (x : Stepped). shown_by x.step) (none pages));
        on = λ others. sym (ap (λ (x : Stepped).
            then_step (left_open x.step) (step_of pages others state)) (none pages));
        takes_on = λ others. refl;
      };
      asks = λ judged may is. subst (λ (x : Stepped). Asks x.step.asked seen seen)
          (sym (none (unit_pages judged))) (Asks-nil seen);
      steady = refl;
      failed = λ is. absurd cc;
      ended = λ over. absurd cc;
      goes_on = λ so. tt;
      ready = going;
      over = tt;
      stays = Stays-same seen;
    }

-- it is over already
pub over_plays : (keys : List Key) (seen : Seen) (state : State) → state.is_over ≡ true
    → Plays keys seen seen state state (Err Ended)
over_plays keys seen state over = record {
  leads = tt;
  asks = tt;
  steady = tt;
  failed = λ is. absurd cc;
  ended = λ so. (refl, refl);
  goes_on = λ going. absurd (false≢true (sym going ∙ over));
  ready = tt;
  over = over;
  stays = Stays-same seen;
}

-- ---- one more, which leads on from where the keys before lead

-- where the keys lead with one more
leads_more : {done : List Key} {one : Key} {pages : Pages} {old now new : State}
    {lines more : List (List ℕ)} → Leads done pages old now lines
    → Leads (one ∷ []) pages now new more
    → Leads (done ++ one ∷ []) pages old new (lines ++ more)
leads_more {done} {one} {pages} {old} {now} {new} {lines} led leads =
    let all = led.on (one ∷ []) in
    record {
      world = leads.world ∙ sym (ap (λ (s : Step). s.world) all);
      over = leads.over;
      asks_user = leads.asks_user ∙ sym (ap (λ (s : Step). s.is_open) all);
      inbox = have_alike (stepped_of pages (done ++ one ∷ []) old).pushes
          (stepped_of pages (one ∷ []) now).pushes new.winners (led.takes_on (one ∷ []))
          leads.inbox;
      tells = ap (λ (last : List (List ℕ)). lines ++ last) leads.tells
          ∙ tells_on led (one ∷ []);
      on = on_more pages done one old now new led.on leads.on;
      takes_on = takes_more pages done one old now new led.takes_on leads.takes_on;
    }

module _ {done : List Key} {before mid after : Seen} {old now : State} {lines : List (List ℕ)}
    (so : Plays done before mid old now (Ok lines)) where
  -- what the keys before came to
  came : Stays mid after → IfOver after old.browser (λ pages. Leads done pages old now lines)
  came stays judged may over = so.leads judged (Stays-may mid after stays judged may) over

  -- a fact of what was asked for with it
  asked_more : (one : Key) (Fact Next : List Asked → Type 0)
      → ((asked others : List Asked) → Asks asked before mid → Next others
      → Fact (asked ++ others)) → Stays mid after
      → IfOver after now.browser (λ pages. Next (step_of pages (one ∷ []) now).asked)
      → IfOver after old.browser (λ pages. Fact (step_of pages (done ++ one ∷ []) old).asked)
  asked_more one Fact Next joins stays next judged may over =
      let pages = unit_pages judged in
      let led = came stays judged may over in
      subst Fact (sym (ap (λ (s : Step). s.asked) (led.on (one ∷ []))))
      (joins (step_of pages done old).asked (step_of pages (one ∷ []) now).asked
      (so.asks judged (Stays-may mid after stays judged may) over) (next judged may led.over))

  -- it is played
  pub plays_more : {one : Key} {new : State} {more : List (List ℕ)}
      → Plays (one ∷ []) mid after now new (Ok more)
      → Plays (done ++ one ∷ []) before after old new (Ok (lines ++ more))
  plays_more {one} {new} {more} next = record {
    leads = λ judged may over.
        let led = came next.stays judged may over in
        leads_more led (next.leads judged may led.over);
    asks = asked_more one (λ asked. Asks asked before after) (λ asked. Asks asked mid after)
        (λ asked others. Asks-then asked others before mid after) next.stays next.asks;
    steady = next.steady ∙ so.steady;
    failed = λ e. absurd cc;
    ended = λ over. let e = (so.ended over).0 in absurd cc;
    goes_on = λ going. tt;
    ready = next.ready;
    over = tt;
    stays = Stays-then before mid after so.stays next.stays;
  }

  -- or the store failed at it
  pub missed_more : (one : Key) (rest : List Key) → Stays mid after
      → IfOver after now.browser (λ pages. Fails (step_of pages (one ∷ []) now).asked mid after)
      → IfOver after old.browser
      (λ pages. MissedAt (done ++ one ∷ rest) pages old before after)
  missed_more one rest stays next judged may over = record {
    first = done ++ one ∷ [];
    others = rest;
    split = sym (append_assoc done (one ∷ []) rest);
    missed = asked_more one (λ asked. Fails asked before after)
        (λ asked. Fails asked mid after)
        (λ asked others. Asks-fails asked others before mid after) stays next judged may
        over;
  }

  -- or it failed in another way
  pub then_fails : {one all : List Key} {new : State} {fault : SessionFault}
      → Plays one mid after now new (Err fault) → Plays all before after old new (Err fault)
  then_fails next = record {
    leads = tt;
    asks = tt;
    steady = tt;
    failed = λ e. subst (λ (count : ℕ). count < after.faults) so.steady (next.failed e);
    ended = λ over. let e = (so.ended over).0 in absurd cc;
    goes_on = λ going. next.goes_on so.ready;
    ready = tt;
    over = next.over;
    stays = Stays-then before mid after so.stays next.stays;
  }

  -- or it was played, and then memory ran out
  pub then_wants : {one all : List Key} {new last : State} {more : List (List ℕ)}
      → Plays one mid after now new (Ok more) → last.is_over ≡ true
      → Plays all before after old last (Err NoMemory)
  then_wants next over = record {
    leads = tt;
    asks = tt;
    steady = tt;
    failed = λ e. absurd cc;
    ended = λ was. let e = (so.ended was).0 in absurd cc;
    goes_on = λ going e. absurd cc;
    ready = tt;
    over = over;
    stays = Stays-then before mid after so.stays next.stays;
  }

-- ---- keys of a list, by their numbers

-- those before one, it, and those after it
pub around : (keys : List Key) (i : ℕ) (one : Key) → i < length keys → one ≡ get_or keys i one
    → take i keys ++ one ∷ drop (i + 1) keys ≡ keys
around keys i one within is =
    ap (λ (rest : List Key). take i keys ++ rest)
    (ap (λ (key : Key). key ∷ drop (i + 1) keys) is ∙ sym (drop_more keys i one within))
    ∙ take-append-drop i keys

pub one_more : (keys : List Key) (i : ℕ) (one : Key) → i < length keys → one ≡ get_or keys i one
    → take (i + 1) keys ≡ take i keys ++ one ∷ []
one_more keys i one within is =
    take_more keys i one within ∙ ap (λ (key : Key). take i keys ++ key ∷ []) (sym is)
