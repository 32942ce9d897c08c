-- Keys in a dialog.
use Rattle.std.proofs.Common.{◌≡◌, ℕ, List, [], ◌∷◌, Option, Some, refl, sym, ap, ◌∙◌}
use Rattle.wap_base.specs.declared.key.Key.{Key}
use Rattle.wap_value.specs.declared.value.Value.{Value}
use Rattle.wap_execution.specs.declared.fatal.Fatal.TheVariants.{Stopped}
use Rattle.wap_execution.specs.declared.library.HostOut.{HostOut}
use Rattle.wap_execution.specs.Outcomes.{Ended}
use Rattle.wap_execution.specs.Running.{resumed}
use Rattle.wap_execution.specs.laws.Settings.{uncounted}
use Rattle.wap_execution.specs.laws.Keyed.{gone_on}
use Rattle.wap_world.specs.Shelves.{Shelf}
use Rattle.wap_world.specs.World.{World, Place, place_now}
use Rattle.wap_world.specs.Steps.{Step, Once, then_step, quiet, still}
use Rattle.wap_world.specs.Sites.{Call, failed}
use Rattle.wap_world.specs.Starting.{ended_script}
use Rattle.wap_world.specs.Tasks.{onward, act}
use Rattle.wap_world.specs.scripting.Dialogs.{Reply, answers, ends_it, passes, reply_to, meanwhile}
use Rattle.wap_world.specs.scripting.Dialogs.{after_reply, answered_by}
use Rattle.wap_world.specs.scripting.UnitSites.{Pages, shelf_of, host_of, keyed_host, ran_of}
use Rattle.wap_world.specs.scripting.UnitSites.{units_site}
use Rattle.wap_world.specs.scripting.Waiting.{Waits, inside, resumed_step}
use Rattle.wap_world.specs.scripting.Feeding.{Means}
use Rattle.wap_world.proofs.Joining.{once_before, joined_nothing, onward_after}
use Rattle.wap_world.specs.scripting.Halves.{half_of, once_of}
use Rattle.wap_world.proofs.Hosts.Kin.{Kinship, staying}
use Rattle.wap_world.proofs.Hosts.Dialogs.{Dwells, meanwhile_holds}
use Rattle.wap_world.proofs.ScriptingLawsLemmas.Runs.{no_turn_holds, keys_ended, answered_front}
use Rattle.wap_world.proofs.ScriptingLawsLemmas.Runs.{gone_alike, ran_front, resumes}

-- ---- meanwhile no turn is taken

-- no turn is in the world
abbrev no_turn : Kinship
no_turn = staying (λ s. s.world.turns ≡ 0) no_turn_holds

no_turn_dwells : Dwells no_turn
no_turn_dwells = record {
  keys = λ s. refl;
  moves = λ keys s. refl;
  takes = λ one keys s none. none;
  counts = λ time left s is none. none;
  expires = λ time s is none. none;
}

-- nor is one after a key that is no answer
meanwhile_turns : (place : Option Place) (one : Key) (w : World) → w.turns ≡ 0
    → (meanwhile place one w).world.turns ≡ 0
meanwhile_turns place one w none =
    meanwhile_holds no_turn no_turn_dwells place one (quiet [] (still w)) none

module _ (call : List ℕ → Option Call) (pages : Pages) (one : Waits) (w : World) where
  -- the shelf of the pages
  abbrev shelf : Shelf
  shelf = shelf_of pages

  -- the end of the script
  abbrev ended : Ended Step → Once
  ended end = ended_script shelf one.base (ran_of end)

  -- the frames go on with an answer
  abbrev go : HostOut × Step → Ended Step
  go got =
      gone_on (uncounted one.limits (keyed_host pages)) (λ e. e) one.frames got.0 w.turns got.1

  -- what the dialog and then the script come to by a key's reply
  abbrev replied : Reply → Key → List Key → Step
  replied reply key keys =
      onward (act (units_site call pages)) (ended (go (after_reply shelf reply key keys
      (quiet (key ∷ keys) (still (inside w))) (answered_by shelf one.dialog keys))))

  -- a key in a dialog, by its reply
  turned_is : (one_key : Key) (keys : List Key)
      → resumed_step call pages one (one_key ∷ keys) w
      ≡ replied (reply_to one.dialog one_key) one_key keys
  unfolding resumed_step
  turned_is one_key keys = refl

  -- by the reply that it is
  by_reply : (one_key : Key) (reply : Reply) → reply_to one.dialog one_key ≡ reply
      → (keys : List Key)
      → resumed_step call pages one (one_key ∷ keys) w ≡ replied reply one_key keys
  by_reply one_key reply is keys =
      turned_is one_key keys ∙ ap (λ (r : Reply). replied r one_key keys) is

  -- an answer: the machine goes on without keys, and what it comes to is what the definition says
  pub answer_means : (one_key : Key) (v : Value) → reply_to one.dialog one_key ≡ answers v
      → (keys : List Key)
      → resumed_step call pages one (one_key ∷ keys) w
      ≡ onward (act (units_site call pages)) (once_of pages (half_of one.limits shelf one.base
      (resumed (uncounted one.limits (host_of pages)) one.frames v w.turns
      (quiet [] (still (inside w))))) keys)
  answer_means one_key v is keys =
      by_reply one_key (answers v) is keys
      ∙ ap (onward (act (units_site call pages)))
      (resumes pages one.base one.limits one.frames v w.turns (inside w) keys refl)

  -- the script is stopped
  pub stop_means : (one_key : Key) → reply_to one.dialog one_key ≡ ends_it → (keys : List Key)
      → resumed_step call pages one (one_key ∷ keys) w
      ≡ onward (act (units_site call pages))
      (once_before keys (ended_script shelf one.base (record {
        end = failed Stopped;
        turns = w.turns;
        step = quiet [] (still (inside w));
      })))
  stop_means one_key is keys =
      by_reply one_key ends_it is keys
      ∙ ap (onward (act (units_site call pages)))
      (keys_ended shelf one.base (failed Stopped) w.turns keys (quiet [] (still (inside w))))

  -- the dialog stays
  pub stay_means : (one_key : Key) → reply_to one.dialog one_key ≡ passes
      → let scene = meanwhile (place_now shelf w) one_key (inside w) in
      Means call pages (record {
        step = quiet [] (record scene { world = record scene.world { turns = w.turns } });
        waiting = Some one;
      }) (λ keys. resumed_step call pages one (one_key ∷ keys) w)
  unfolding resumed_step
  stay_means one_key is keys =
      let scene = meanwhile (place_now shelf w) one_key (inside w) in
      let p = quiet [] scene in
      let s = quiet keys (still scene.world) in
      let got = answered_by shelf one.dialog keys s in
      let on = onward (act (units_site call pages)) in
      by_reply one_key passes is keys
      ∙ ap (λ (t : Step). on (ended (go (answered_by shelf one.dialog keys t))))
      (sym (joined_nothing (quiet [] scene) keys))
      ∙ ap (λ g. on (ended (go g))) (answered_front shelf p one.dialog keys s)
      ∙ ap on (ran_front pages one.base one.limits p (go got) (go (got.0, then_step p got.1))
      (gone_alike pages one.base one.limits p one.frames got.0 w.turns got.1))
      ∙ onward_after (act (units_site call pages)) p (ended (go got))
      ∙ ap (λ (v : World). then_step p
      (on (ended (go (answered_by shelf one.dialog keys (quiet keys (still v)))))))
      (ap (λ (t : ℕ). record scene.world { turns = t })
      (meanwhile_turns (place_now shelf w) one_key (inside w) refl))
