-- From a world at rest each key leads to a world at rest, unless a dialog stays open: then a script
-- has asked for nothing, and waits for no timer.
use Rattle.std.proofs.Common.{◌≡◌, ◌≢◌, inl, inr, ℕ, false, List, None, refl}
use Rattle.std.specs.Prelude.{Result}
use Rattle.wap_base.specs.declared.limits.Limits.{Limits}
use Rattle.wap_base.specs.declared.key.Key.{Key}
use Rattle.wap_push.specs.declared.indication.Indication.{Indication}
use Rattle.wap_push.specs.declared.fault.PushFault.{PushFault}
use Rattle.wap_world.specs.declared.timer.Timer.{Timer}
use Rattle.wap_world.specs.declared.timer.Timer.TheVariants.{NotStarted, Expired}
use Rattle.wap_world.specs.Shelves.{Shelf}
use Rattle.wap_world.specs.Sites.{Site}
use Rattle.wap_world.specs.World.{World, first_world}
use Rattle.wap_world.specs.Timers.{settled_timer}
use Rattle.wap_world.specs.Keys.{react}
use Rattle.wap_world.specs.Sessions.{played}
use Rattle.wap_world.specs.inboxes.Inboxes.{Phone, Stepped}
use Rattle.wap_world.specs.session_laws.Scripts.{ScriptsKeep}
use Rattle.wap_world.specs.session_laws.Standing.{HaveCards, StandsOnCard}
use Rattle.wap_world.proofs.Alike.{Fact, Opens, stays_open, StepAlike, unless_lost}
use Rattle.wap_world.proofs.Walk.{Kept, SitesAlike, react_alike}
use Rattle.wap_world.proofs.Invariants.{Any}
use Rattle.wap_world.proofs.Plays.{plays_same}
use Rattle.wap_world.proofs.SessionLawsLemmas.Standing.{Stands, standing_kept}
use Rattle.wap_state.specs.Saved.{IsAtRest}

-- the world stands on a card, no script has asked for a task, and none waits while the timer runs
-- out
abbrev pub Rests : Shelf → World → Type 0
Rests shelf w = StandsOnCard shelf w × (w.pending ≡ None) × (w.timer ≢ Expired)

-- whatever keys are left
abbrev Resting : Shelf → Fact
Resting shelf keys w = Rests shelf w

-- a timer that ran out meanwhile is settled
settled_off : (t : Timer) → settled_timer t ≢ Expired
settled_off NotStarted is = cc is
settled_off t is = cc is

module _ (site : Site) (runs : ScriptsKeep (StandsOnCard site.shelf) site)
    (cards : HaveCards site.shelf) where
  -- what the changes of a world keep, but for those in scripts, after which a world stands on a
  -- card
  rests_kept : Kept (Resting site.shelf) (Stands site.shelf) Any site.shelf
  rests_kept =
      let kept = standing_kept site cards in record {
        vars = λ k w v r. (kept.vars k w v r.0, r.1, r.2);
        reset = λ k w r. (kept.reset k w r.0, r.1, λ is. cc is);
        timer = λ k w t place runs here r. (kept.timer k w t place runs here r.0, r.1, runs);
        turn = λ k w n is r. (kept.turn k w n is r.0, r.1, r.2);
        clear = λ k w r. (kept.clear k w r.0, r.1, λ is. cc is);
        push = λ k w url deck fine has r. (kept.push k w url deck fine has r.0, r.1, r.2);
        pop = λ k w e deck fine has r. (kept.pop k w e deck fine has r.0, r.1, r.2);
        begins = λ k w r. kept.begins k w r.0;
        ends = λ k w stands. (kept.ends k w stands, refl, settled_off w.timer);
      }

  -- the site comes to the same as itself, and leaves worlds at rest, or a dialog stays open
  rests_alike : SitesAlike (Resting site.shelf) (Stands site.shelf) Opens Any Any site site
  rests_alike = record {
    losing = stays_open;
    kept = rests_kept;
    unanswered = λ step stands. inr refl;
    call = refl;
    place = λ k w r. refl;
    fine = λ k w place r is. tt;
    asks = λ name fresh. inl tt;
    pages = λ name fine. refl;
    lets_in = λ name caller fine. inl tt;
    externals = λ name function same. refl;
    runs = λ name base referer index arguments turns step same stands.
        inl (refl, runs name base referer index arguments turns step stands);
  }

  -- so does a key
  reacts : (one : Key) (keys : List Key) (w : World) → Rests site.shelf w
      → StepAlike (Resting site.shelf) Opens (react site one keys w) (react site one keys w)
  reacts one keys w r =
      react_alike (Resting site.shelf) (Stands site.shelf) Opens Any Any site site rests_alike one
      keys w (record { card = r.0.card; timer = r.0.timer }, r.1, r.2)

  -- so keys that end outside a dialog leave a world at rest
  pub plays_rest : (read : List ℕ → Result Indication PushFault) (keys : List Key)
      (phone : Phone) → Rests site.shelf phone.world
      → let end = played read site keys phone in
      end.step.is_open ≡ false → Rests site.shelf end.step.world
  plays_rest read keys phone r shut =
      let end = played read site keys phone in
      (unless_lost (Resting site.shelf) Opens (λ (one : Stepped). one.step) end end
      (λ is. cc (shut, is))
      (plays_same (Resting site.shelf) Opens stays_open site site reacts (λ one keys w r. r) read
      keys phone r)).1

-- the same of worlds at rest
pub played_rests : (read : List ℕ → Result Indication PushFault) (site : Site) (keys : List Key)
    (phone : Phone) → ScriptsKeep (StandsOnCard site.shelf) site → HaveCards site.shelf
    → StandsOnCard site.shelf phone.world → IsAtRest phone.world
    → (played read site keys phone).step.is_open ≡ false
    → IsAtRest (played read site keys phone).step.world
played_rests read site keys phone runs cards stands rest shut =
    let end = plays_rest site runs cards read keys phone (stands, rest.none, rest.settled) shut in
    record { none = end.1; settled = end.2; unstarted = end.0.timer }

-- a world in which nothing was done is at rest
pub first_rests : (seed budget : ℕ) (limits : Limits) → IsAtRest (first_world seed budget limits)
first_rests seed budget limits =
    record { none = refl; settled = λ is. cc is; unstarted = λ none. refl }
