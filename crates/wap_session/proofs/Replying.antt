-- Keys in a dialog.
use Rattle.std.proofs.Common.{◌≡◌, ℕ, ◌-◌, Bool, true, false, List, [], ◌∷◌, ◌++◌, cond, ltb}
use Rattle.std.proofs.Common.{Option, Some, None, Ok, refl, sym, ap, subst, ◌∙◌}
use Rattle.std.proofs.lemmas.List.{append-nil}
use Rattle.wap_base.specs.declared.key.Key.{Key}
use Rattle.wap_base.specs.declared.key.Key.TheVariants as key
use Rattle.wap_value.specs.declared.value.Value.{Value}
use Rattle.wap_execution.specs.declared.dialog.Dialog.{Dialog}
use Rattle.wap_execution.specs.laws.Settings.{uncounted}
use Rattle.wap_execution.specs.laws.Keyed.{gone_on}
use Rattle.wap_world.specs.site.Misses.{Asked}
use Rattle.wap_world.specs.site.Asking.{Seen, Asks}
use Rattle.wap_world.proofs.SiteLemmas.Asking.{Asks-nil, Stays-same}
use Rattle.wap_world.specs.declared.timer.Timer.{Timer}
use Rattle.wap_world.specs.declared.timer.Timer.TheVariants.{Running, Expired}
use Rattle.wap_world.specs.World.{World, Place, place_now}
use Rattle.wap_world.specs.Steps.{Scene, Step, then_step, quiet, still}
use Rattle.std.specs.Option.{option_and_then}
use Rattle.wap_cardrules.specs.Timers.{timer_in, timer_variable}
use Rattle.wap_world.specs.Timers.{store_under}
use Rattle.wap_world.specs.Starting.{ended_script}
use Rattle.wap_world.specs.Tasks.{onward, act}
use Rattle.wap_world.specs.Screens.{at_place}
use Rattle.wap_world.specs.scripting.Dialogs.{Reply, answers, ends_it, passes, reply_to, run_out}
use Rattle.wap_world.specs.scripting.Dialogs.{tick_waiting, meanwhile, after_reply, answered_by}
use Rattle.wap_world.specs.scripting.UnitSites.{Pages, shelf_of, unit_pages, keyed_host, ran_of}
use Rattle.wap_world.specs.scripting.UnitSites.{units_site}
use Rattle.wap_world.specs.scripting.Waiting.{Waits, inside, resumed_step}
use Rattle.wap_world.proofs.ScriptingLawsLemmas.Replying.{stay_means}
use Rattle.wap_context.specs.declared.waiting.Step.TheVariants.{Asks as AsksUser}
use Rattle.wap_context.specs.Browsers.{Browser, Shows}
use Rattle.wap_context.proofs.Places.{held_now}
use Rattle.wap_context.proofs.Plays.{over_shown}
use Rattle.wap_context.specs.Pausing.{Paused, waits_of}
use Rattle.wap_context.specs.Sites.{fragment_call}
use Rattle.wap_context.specs.Acting.{Acts, answer, stop}
use Rattle.wap_session.specs.Feeding.{left_open}
use Rattle.wap_session.specs.inside.Turns.{resumed_rule}

-- ---- an answer, and the end

-- what a key comes to in a dialog, by its reply
abbrev replied : Pages → Waits → World → Reply → Key → List Key → Step
replied pages one w reply key keys =
    let got = after_reply (shelf_of pages) reply key keys (quiet (key ∷ keys) (still (inside w)))
    (answered_by (shelf_of pages) one.dialog keys) in
    onward (act (units_site fragment_call pages)) (ended_script (shelf_of pages) one.base
    (ran_of (gone_on (uncounted one.limits (keyed_host pages)) (λ end. end) one.frames got.0
    w.turns got.1)))

-- a key that answers goes on with the script
pub answers_so : (dialog : Dialog) (paused : Paused) (one : Key) (v : Value)
    → reply_to dialog one ≡ answers v → (pages : Pages) (keys : List Key) (world : World)
    → resumed_rule (waits_of dialog paused) one pages keys world
    ≡ answer paused v pages keys world
unfolding resumed_step
answers_so dialog paused one v is pages keys world =
    ap (λ (reply : Reply). replied pages (waits_of dialog paused) world reply one keys)
    is

-- and `stop` ends it
pub ends_so : (dialog : Dialog) (paused : Paused) (one : Key)
    → reply_to dialog one ≡ ends_it → (pages : Pages) (keys : List Key) (world : World)
    → resumed_rule (waits_of dialog paused) one pages keys world
    ≡ stop paused pages keys world
unfolding resumed_step
ends_so dialog paused one is pages keys world =
    ap (λ (reply : Reply). replied pages (waits_of dialog paused) world reply one keys)
    is

-- ---- any other key

-- a variable is set for a timer that ran out, whatever turns are left
stored_apart : (name : Option (List ℕ)) (w : World)
    → let scene = store_under name 0 (record (inside w) { timer = Expired }) in
    record scene { world = record scene.world { turns = w.turns } }
    ≡ store_under name 0 (record w { timer = Expired })
stored_apart None w = refl
stored_apart (Some name) w = refl

-- so a timer that runs out in a dialog does what it does with its turns apart
out_apart : (place : Option Place) (w : World) → let scene = at_place run_out place (inside w) in
    record scene { world = record scene.world { turns = w.turns } } ≡ at_place run_out place w
out_apart None w = refl
out_apart (Some place) w =
    stored_apart (option_and_then timer_variable (timer_in place.card)) w

-- and so does time that passes
tick_apart : (place : Option Place) (n : ℕ) (timer : Timer) (w : World)
    → let scene = tick_waiting place n timer (inside w) in
    record scene { world = record scene.world { turns = w.turns } } ≡ tick_waiting place n timer w
tick_apart place n (Running time) w = by (ltb n time)
  where
    by : (b : Bool) → let scene = cond b
        (still (record (inside w) { timer = Running (time - n) }))
        (at_place run_out place (inside w)) in
        record scene { world = record scene.world { turns = w.turns } }
        ≡ cond b (still (record w { timer = Running (time - n) }))
        (at_place run_out place w)
    by true = refl
    by false = out_apart place w
tick_apart place n timer w = refl

-- or any key that is no answer
apart : (place : Option Place) (one : Key) (w : World)
    → let scene = meanwhile place one (inside w) in
    record scene { world = record scene.world { turns = w.turns } } ≡ meanwhile place one w
apart place (key.Tick n) w = tick_apart place n w.timer w
apart place one w = refl

module _ (pages : Pages) (one : Waits) (key : Key) (w : World)
    (is : reply_to one.dialog key ≡ passes) where
  -- what the key does
  abbrev scene : Scene
  scene = meanwhile (place_now (shelf_of pages) w) key w

  -- the dialog stays for the keys after it
  passes_so : (keys : List Key) → resumed_rule one key pages keys w
      ≡ then_step (quiet [] scene) (resumed_step fragment_call pages one keys scene.world)
  passes_so keys =
      stay_means fragment_call pages one w key is keys
      ∙ ap (λ (s : Scene). then_step (quiet [] s)
      (resumed_step fragment_call pages one keys s.world))
      (apart (place_now (shelf_of pages) w) key w)

  -- and without these it is open
  left_so : resumed_rule one key pages [] w
      ≡ record (quiet [] (record scene { lines = scene.lines ++ [] })) { is_open = true }
  unfolding resumed_step
  left_so = passes_so []

  -- so this was done
  shut_so : left_open (resumed_rule one key pages [] w) ≡ quiet [] scene
  shut_so = ap (λ (s : Step). left_open s) left_so
      ∙ ap (λ (lines : List (List ℕ)). quiet [] (record scene { lines = lines }))
      (append-nil scene.lines)

-- a browser after such a key, which asked for nothing
pub passes_act : (dialog : Dialog) (paused : Paused) (one : Key) (seen : Seen)
    (old new : Browser) (lines : List (List ℕ)) → reply_to dialog one ≡ passes
    → Shows (λ place. meanwhile place one) old new [] lines
    → Acts (resumed_rule (waits_of dialog paused) one) seen seen old new
    (Ok (AsksUser lines dialog paused))
passes_act dialog paused one seen old new lines is shows =
    let waits = waits_of dialog paused in
    let w = old.world in
    record {
      follows = λ judged may over.
          let pages = unit_pages judged in
          let here = held_now (shelf_of pages) old over in
          let left = left_so pages waits one w is in
          let shut = shut_so pages waits one w is in
          record {
            leads = shows.plays.world
                ∙ ap (λ (p : Option Place). (meanwhile p one w).world) (sym here)
                ∙ sym (ap (λ (s : Step). s.world) left);
            tells = shows.plays.lines
                ∙ ap (λ (p : Option Place). (meanwhile p one w).lines) (sym here)
                ∙ sym (ap (λ (s : Step). s.lines) shut);
            over = over_shown (λ place. meanwhile place one) old new [] lines shows
                (shelf_of pages) over;
            asks_user = ap (λ (s : Step). s.is_open) left;
            on = λ keys. passes_so pages waits one w is keys
                ∙ sym (ap (λ (s : Step). then_step s
                (resumed_step fragment_call pages waits keys s.world)) shut);
          };
      asks = λ judged may over. subst (λ (asked : List Asked). Asks asked seen seen)
          (sym (ap (λ (s : Step). s.asked) (left_so (unit_pages judged) waits one w is)))
          (Asks-nil seen);
      steady = refl;
      failed = λ e. absurd cc;
      missed = λ e. absurd cc;
      stays = Stays-same seen;
    }
