-- Scripts without further keys, and what these then do.
use Rattle.std.proofs.Common.{◌≡◌, inl, inr, ℕ, List, [], ◌∷◌, ◌++◌, Option, Some, None, refl, sym}
use Rattle.std.proofs.Common.{ap, ◌∙◌, append_assoc}
use Rattle.wap_base.specs.declared.limits.Limits.{Limits}
use Rattle.wap_base.specs.declared.key.Key.{Key}
use Rattle.wap_url.specs.declared.url.Url.{Url}
use Rattle.wap_value.specs.declared.value.Value.{Value}
use Rattle.wap_cardrules.specs.declared.task.Task.{Task}
use Rattle.wap_execution.specs.declared.dialog.Dialog.{Dialog}
use Rattle.wap_execution.specs.declared.library.HostOut.{HostOut}
use Rattle.wap_execution.specs.declared.library.HostOut.TheVariants as out
use Rattle.wap_execution.specs.Frames.{Frame}
use Rattle.wap_execution.specs.Outcomes.{Outcome, waits, Ended}
use Rattle.wap_execution.specs.Running.{ended, resumed, finished}
use Rattle.wap_execution.specs.laws.Settings.{uncounted}
use Rattle.wap_execution.specs.laws.Keyed.{gone_on, unrolled}
use Rattle.std.specs.Prelude.{⊤}
use Rattle.wap_execution.specs.laws.Simulation.{AreAlike, ComeToSame}
use Rattle.wap_execution.proofs.LawsLemmas.KeyedLaws as keyed_laws
use Rattle.wap_execution.proofs.LawsLemmas.SimLaws as sim_laws
use Rattle.wap_world.specs.declared.timer.Timer.{Timer}
use Rattle.wap_world.specs.declared.timer.Timer.TheVariants.{Expired}
use Rattle.wap_world.specs.Shelves.{Shelf}
use Rattle.wap_world.specs.World.{World, Place, place_now}
use Rattle.wap_world.specs.Steps.{Scene, Step, Once, then_step, after_step, still, quiet, settled}
use Rattle.wap_world.specs.Sites.{End, done, failed, unanswered}
use Rattle.wap_world.specs.Entering.{or_show}
use Rattle.wap_world.specs.Starting.{script_line, in_world, rest, end_done, end_by, ended_script}
use Rattle.wap_world.specs.scripting.Dialogs.{answered_by, by_keys}
use Rattle.wap_world.specs.scripting.UnitSites.{Pages, shelf_of, host_of, keyed_host, end_of}
use Rattle.wap_world.specs.scripting.UnitSites.{ran_of}
use Rattle.wap_world.specs.scripting.Views.{NoStep}
use Rattle.wap_world.specs.scripting.Waiting.{inside}
use Rattle.wap_world.specs.scripting.Halves.{half_of, once_of, GoesOnWithKeys}
use Rattle.wap_world.proofs.Joining.{before, once_before, or_true, after_assoc, joined_nothing}
use Rattle.wap_world.proofs.Hosts.Kin.{Kinship, Kin, Holds, after, turns_changed}
use Rattle.wap_world.proofs.Hosts.Calls.{itself}
use Rattle.wap_world.proofs.Hosts.Dialogs.{answered_given, after_dwells}
use Rattle.wap_world.proofs.Hosts.Runs.{parts_of, moved_alike, hosts_alike}

-- the same answer, with a step before it
abbrev pub fronted : {A : Type 0} → Step → A × Step → A × Step
fronted p gave = (gave.0, then_step p gave.1)

-- no turn is in the world, whatever a library changes
pub no_turn_holds : Holds (λ s. s.world.turns ≡ 0)
no_turn_holds = record {
  more = λ lines asked tests s none. none;
  changes = λ change s none. turns_changed change s.world ∙ none;
}

-- before other keys, which nobody reads, and with no turn in the world
abbrev pub with_keys : List Key → Kinship
with_keys keys = record {
  moved = before keys;
  So = λ s. s.world.turns ≡ 0;
  moves = record {
    world = λ s. refl;
    more = λ lines asked tests s. refl;
    places = λ w s. refl;
  };
  holds = no_turn_holds;
}

-- keys in a dialog behind a step
pub answered_front : (shelf : Shelf) (p : Step) (dialog : Dialog) (keys : List Key) (s : Step)
    → answered_by shelf dialog keys (then_step p s) ≡ fronted p (answered_by shelf dialog keys s)
answered_front shelf p dialog keys s =
    let given = answered_given (after p) (after_dwells p) shelf shelf (λ u so. refl) dialog keys s
    (then_step p s) (record { is = refl; so = tt }) in
    λ i. (sym given.0 i, given.1.is i)

-- no call sees what stands before
front_alike : (pages : Pages) (p : Step)
    → AreAlike (Kin (after p)) NoStep NoStep (keyed_host pages) (keyed_host pages)
front_alike pages p =
    hosts_alike (after p) (itself (λ s. ⊤) (parts_of pages)) (after_dwells p)

-- ---- how scripts end: other keys

-- a task that is next, before other keys
keys_or_show : (place : Option Place) (some other : List Key) (task : Option Task) (w : World)
    → or_show place other task w ≡ once_before other (or_show place some task w)
keys_or_show place some other None w = refl
keys_or_show place some other (Some task) w = refl

-- the end without a navigation, before other keys
keys_rest : (place : Option Place) (some other : List Key) (timer : Timer) (w : World)
    → rest place other timer w ≡ once_before other (rest place some timer w)
keys_rest place some other Expired w = keys_or_show place some other _ _
keys_rest place some other timer w = refl

-- the end of a script that is done, before other keys
keys_done : (place : Option Place) (base : Url) (pending : Option Task) (other : List Key)
    (step : Step)
    → end_done place base pending (before other step)
    ≡ once_before other (end_done place base pending step)
keys_done place base None other step =
    ap (after_step step) (keys_rest place step.keys other step.world.timer step.world)
keys_done place base (Some task) other step = refl

-- any end
pub keys_end : (place : Option Place) (base : Url) (end : End) (other : List Key) (step : Step)
    → end_by place base end (before other step) ≡ once_before other (end_by place base end step)
keys_end place base done other step = keys_done place base step.world.pending other step
keys_end place base (failed why) other step =
    let world = record step.world { pending = None } in
    ap (after_step (record step { world = world; lines = step.lines ++ script_line why ∷ [] }))
    (keys_rest place step.keys other world.timer world)
keys_end place base unanswered other step = refl

pub keys_ended : (shelf : Shelf) (base : Url) (end : End) (turns : ℕ) (other : List Key)
    (step : Step)
    → ended_script shelf base (record { end = end; turns = turns; step = before other step })
    ≡ once_before other
    (ended_script shelf base (record { end = end; turns = turns; step = step }))
keys_ended shelf base end turns other step =
    let world = record step.world { turns = turns } in
    keys_end (place_now shelf world) base end other (in_world world step)

-- ---- what stands before

-- the end of a script that is done, behind a step
front_done : (p : Step) (place : Option Place) (base : Url) (pending : Option Task) (step : Step)
    → end_done place base pending (then_step p step)
    ≡ after_step p (end_done place base pending step)
front_done p place base None step =
    after_assoc p step (rest place step.keys step.world.timer step.world)
front_done p place base (Some task) step = refl

-- any end behind a step
pub front_end : (p : Step) (place : Option Place) (base : Url) (end : End) (step : Step)
    → end_by place base end (then_step p step) ≡ after_step p (end_by place base end step)
front_end p place base done step = front_done p place base step.world.pending step
front_end p place base (failed why) step =
    let world = record step.world { pending = None } in
    let late = in_world world step in
    let last = rest place step.keys world.timer world in
    ap (λ s. after_step s last)
    (λ i. record (then_step p late) {
      lines = append_assoc p.lines step.lines (script_line why ∷ []) i;
    })
    ∙ after_assoc p (record late { lines = step.lines ++ script_line why ∷ [] }) last
front_end p place base unanswered step =
    ap (λ b. settled (record (then_step p step) { is_open = b })) (sym (or_true p.is_open))

front_ended : (p : Step) (shelf : Shelf) (base : Url) (end : End) (turns : ℕ) (step : Step)
    → ended_script shelf base (record { end = end; turns = turns; step = then_step p step })
    ≡ after_step p
    (ended_script shelf base (record { end = end; turns = turns; step = step }))
front_ended p shelf base end turns step =
    let world = record step.world { turns = turns } in
    front_end p (place_now shelf world) base end (in_world world step)

module _ (pages : Pages) (base : Url) (limits : Limits) where
  -- the shelf of the pages
  abbrev shelf : Shelf
  shelf = shelf_of pages

  -- the second end is the first behind a step
  abbrev Alike : Step → Ended Step → Ended Step → Type 0
  Alike p end end' = ComeToSame (Kin (after p)) NoStep NoStep end end'

  -- frames that go on behind a step
  pub gone_alike : (p : Step) (frames : List Frame) (gave : HostOut) (turns : ℕ) (s : Step)
      → Alike p
      (gone_on (uncounted limits (keyed_host pages)) (λ end. end) frames gave turns s)
      (gone_on (uncounted limits (keyed_host pages)) (λ end. end) frames gave turns (then_step p s))
  gone_alike p frames (out.Value v) turns s =
      (sim_laws.agrees (Kin (after p)) NoStep NoStep limits (keyed_host pages) (keyed_host pages)
      (front_alike pages p)).resuming frames v turns s (then_step p s)
      (record { is = refl; so = tt })
  gone_alike p frames gave turns s =
      inl (record { outcome = refl; turns = refl; state = record { is = refl; so = tt } })

  -- what they come to
  pub ran_front : (p : Step) (end end' : Ended Step) → Alike p end end'
      → ended_script shelf base (ran_of end')
      ≡ after_step p (ended_script shelf base (ran_of end))
  ran_front p end end' (inr lost) = absurd (lost.0)
  ran_front p end end' (inl kin) =
      ap (λ (o : Outcome).
      ended_script shelf base (record { end = end_of o; turns = end'.turns; step = end'.state }))
      (sym kin.outcome)
      ∙ ap (λ (t : ℕ).
      ended_script shelf base (record { end = end_of end.outcome; turns = t; step = end'.state }))
      (sym kin.turns)
      ∙ ap (λ (s : Step).
      ended_script shelf base (record { end = end_of end.outcome; turns = end.turns; step = s }))
      kin.state.is
      ∙ front_ended p shelf base (end_of end.outcome) end.turns end.state

  -- a dialog that waits goes on with keys
  waiting_goes_on : (dialog : Dialog) (frames : List Frame) (turns : ℕ) (step : Step)
      (keys : List Key) → step.world.turns ≡ 0
      → let got = by_keys shelf (before keys step) dialog in
      ended_script shelf base
      (ran_of (gone_on (uncounted limits (keyed_host pages)) (λ end. end) frames got.0 turns got.1))
      ≡ once_of pages (half_of limits shelf base (ended (waits dialog frames) turns step)) keys
  waiting_goes_on dialog frames turns step keys none =
      let p = in_world (record step.world { turns = turns }) step in
      let w : World = inside p.world in
      let s : Step = quiet keys (still w) in
      let same_world : step.world ≡ w = ap (λ (t : ℕ). record step.world { turns = t }) none in
      let same : before keys step ≡ then_step p s =
      sym (joined_nothing (before keys step) keys)
      ∙ ap (λ (v : World). then_step p (quiet keys (still v))) same_world in
      let go_with : HostOut × Step → Once = λ got.
      ended_script shelf base
      (ran_of (gone_on (uncounted limits (keyed_host pages)) (λ end. end) frames got.0 turns got.1))
      in
      let got = answered_by shelf dialog keys s in
      ap (λ (t : Step). go_with (answered_by shelf dialog keys t)) same
      ∙ ap go_with (answered_front shelf p dialog keys s)
      ∙ ran_front p
      (gone_on (uncounted limits (keyed_host pages)) (λ end. end) frames got.0 turns got.1)
      (gone_on (uncounted limits (keyed_host pages)) (λ end. end) frames got.0 turns
      (then_step p got.1)) (gone_alike p frames got.0 turns got.1)

  -- the end of a script by the keyed host
  abbrev unrolls : Ended Step → Once
  unrolls end =
      ended_script shelf base
      (ran_of (unrolled (uncounted limits (keyed_host pages)) (by_keys shelf) end))

  -- by the outcome without keys
  goes_on_by : (outcome : Outcome) (turns : ℕ) (step : Step) (keys : List Key)
      → step.world.turns ≡ 0
      → unrolls (ended outcome turns (before keys step))
      ≡ once_of pages (half_of limits shelf base (ended outcome turns step)) keys
  goes_on_by (waits dialog frames) turns step keys none =
      waiting_goes_on dialog frames turns step keys none
  goes_on_by outcome turns step keys none =
      keys_ended shelf base (end_of outcome) turns keys step

  -- the run without keys tells what the run with keys comes to
  goes_on : (keys : List Key) (end end' : Ended Step)
      → ComeToSame (Kin (with_keys keys)) NoStep NoStep end end'
      → unrolls end' ≡ once_of pages (half_of limits shelf base end) keys
  goes_on keys end end' (inr lost) = absurd (lost.0)
  goes_on keys end end' (inl kin) =
      ap (λ (o : Outcome). unrolls (ended o end'.turns end'.state)) (sym kin.outcome)
      ∙ ap (λ (t : ℕ). unrolls (ended end.outcome t end'.state)) (sym kin.turns)
      ∙ ap (λ (s : Step). unrolls (ended end.outcome end.turns s)) kin.state.is
      ∙ goes_on_by end.outcome end.turns end.state keys kin.state.so

  -- what a run without keys comes to with them
  abbrev with : Ended Step → Once
  with end = ended_script shelf base (ran_of end)

  -- a script that is started, and one that goes on with an answer: what it comes to with keys is
  -- what it comes to without, and then what is left to the keys
  pub starts : (frames : List Frame) (turns : ℕ) (scene : Scene) (keys : List Key)
      → scene.world.turns ≡ 0
      → with (finished (uncounted limits (keyed_host pages)) frames turns (quiet keys scene))
      ≡ once_of pages (half_of limits shelf base
      (finished (uncounted limits (host_of pages)) frames turns (quiet [] scene))) keys
  starts frames turns scene keys none =
      ap with ((keyed_laws.goes_on limits (host_of pages) (by_keys shelf)).finishing frames turns
      (quiet keys scene))
      ∙ goes_on keys (finished (uncounted limits (host_of pages)) frames turns (quiet [] scene))
      (finished (uncounted limits (host_of pages)) frames turns (quiet keys scene))
      ((sim_laws.agrees (Kin (with_keys keys)) NoStep NoStep limits (host_of pages) (host_of pages)
      (moved_alike (with_keys keys) (parts_of pages))).finishing frames turns (quiet [] scene)
      (quiet keys scene) (record { is = refl; so = none }))

  -- the same of an answer
  pub resumes : (frames : List Frame) (v : Value) (turns : ℕ) (world : World) (keys : List Key)
      → world.turns ≡ 0
      → with (resumed (uncounted limits (keyed_host pages)) frames v turns
      (quiet keys (still world)))
      ≡ once_of pages (half_of limits shelf base
      (resumed (uncounted limits (host_of pages)) frames v turns (quiet [] (still world)))) keys
  resumes frames v turns world keys none =
      ap with ((keyed_laws.goes_on limits (host_of pages) (by_keys shelf)).resuming frames v turns
      (quiet keys (still world)))
      ∙ goes_on keys
      (resumed (uncounted limits (host_of pages)) frames v turns (quiet [] (still world)))
      (resumed (uncounted limits (host_of pages)) frames v turns (quiet keys (still world)))
      ((sim_laws.agrees (Kin (with_keys keys)) NoStep NoStep limits (host_of pages) (host_of pages)
      (moved_alike (with_keys keys) (parts_of pages))).resuming frames v turns
      (quiet [] (still world)) (quiet keys (still world)) (record { is = refl; so = none }))

-- over all pages
pub goes_on_with_keys : (pages : Pages) (base : Url) (limits : Limits)
    → GoesOnWithKeys pages base limits
goes_on_with_keys pages base limits =
    record { starting = starts pages base limits; resuming = resumes pages base limits }
