-- Keys that answer a dialog, or pass in it, come to the same in two hosts that have the same card
-- at hand.
use Rattle.std.proofs.Common.{◌≡◌, ℕ, Bool, true, false, List, [], ◌∷◌, cond, ltb, ◌-◌, Option}
use Rattle.std.proofs.Common.{Some, None, refl, sym, ap, ◌∙◌, subst}
use Rattle.std.specs.Option.{option_and_then}
use Rattle.wap_base.specs.declared.key.Key.{Key}
use Rattle.wap_base.specs.declared.key.Key.TheVariants as key
use Rattle.wap_cardrules.specs.Timers.{timer_in, timer_variable}
use Rattle.wap_execution.specs.declared.dialog.Dialog.{Dialog}
use Rattle.wap_execution.specs.declared.library.HostOut.{HostOut}
use Rattle.wap_execution.specs.declared.library.HostOut.TheVariants as out
use Rattle.wap_execution.specs.laws.Keyed.{answered_in}
use Rattle.wap_world.specs.declared.timer.Timer.{Timer}
use Rattle.wap_world.specs.declared.timer.Timer.TheVariants.{Running, Expired}
use Rattle.wap_world.specs.Shelves.{Shelf}
use Rattle.wap_world.specs.World.{Place, place_now}
use Rattle.wap_world.specs.Steps.{Scene, Step, still}
use Rattle.wap_world.specs.Screens.{at_place}
use Rattle.wap_world.specs.Starting.{in_world}
use Rattle.wap_world.specs.Timers.{store_under}
use Rattle.wap_world.specs.scripting.Additions.{with_scene}
use Rattle.wap_world.specs.scripting.Dialogs.{Reply, passes, reply_to, meanwhile, run_out}
use Rattle.wap_world.specs.scripting.Dialogs.{tick_waiting, after_reply, answered_by, by_keys}
use Rattle.wap_world.proofs.Joining.{before}
use Rattle.wap_world.proofs.Hosts.Kin.{Kinship, Kin, same_world, world_kin, more_kin, Sets, after}
use Rattle.wap_world.proofs.Hosts.Kin.{InScripts, keeping}
use Rattle.wap_world.proofs.Alike.{Fact}

-- what is so of a step is so of keys in a dialog: of those that are left, and of time that passes
pub record Dwells (k : Kinship) : Type 0 where
  pub keys : (s : Step) → (k.moved s).keys ≡ s.keys
  pub moves : (keys : List Key) (s : Step) → k.moved (before keys s) ≡ before keys (k.moved s)
  pub takes : (one : Key) (keys : List Key) (s : Step) → k.So (before (one ∷ keys) s)
      → k.So (before keys s)
  pub counts : (time left : ℕ) (s : Step) → s.world.timer ≡ Running time → k.So s
      → k.So (in_world (record s.world { timer = Running left }) s)
  pub expires : (time : ℕ) (s : Step) → s.world.timer ≡ Running time → k.So s
      → k.So (in_world (record s.world { timer = Expired }) s)

-- ---- keys that are no answer

module _ (k : Kinship) (dwells : Dwells k) (place : Option Place) where
  -- the timer's variable is set
  stores_hold : (name : Option (List ℕ)) (s : Step) → k.So s
      → k.So (in_world (store_under name 0 s.world).world s)
  stores_hold None s so = so
  stores_hold (Some name) s so = k.holds.changes (Sets _) s so

  -- the timer runs out
  out_holds : (time : ℕ) (o : Option Place) (s : Step) → s.world.timer ≡ Running time → k.So s
      → k.So (in_world (at_place run_out o s.world).world s)
  out_holds time None s is so = so
  out_holds time (Some one) s is so =
      stores_hold (option_and_then timer_variable (timer_in one.card))
      (in_world (record s.world { timer = Expired }) s) (dwells.expires time s is so)

  -- time passes
  tick_holds : (n : ℕ) (timer : Timer) (s : Step) → s.world.timer ≡ timer → k.So s
      → k.So (in_world (tick_waiting place n timer s.world).world s)
  tick_holds n (Running time) s is so = by (ltb n time)
    where
      by : (b : Bool) → k.So (in_world (cond b
          (still (record s.world { timer = Running (time - n) }))
          (at_place run_out place s.world)).world s)
      by true = dwells.counts time (time - n) s is so
      by false = out_holds time place s is so
  tick_holds n timer s is so = so

  -- any key
  pub meanwhile_holds : (one : Key) (s : Step) → k.So s
      → k.So (in_world (meanwhile place one s.world).world s)
  meanwhile_holds (key.Tick n) s so = tick_holds n s.world.timer s refl so
  meanwhile_holds one s so = so

-- ---- two shelves that have the same place

module _ (k : Kinship) (dwells : Dwells k) (shelf shelf' : Shelf)
    (here : (s : Step) → k.So s → place_now shelf s.world ≡ place_now shelf' s.world) where
  -- a key that is no answer leaves kin steps
  meanwhile_kin : (one : Key) (s t : Step) → Kin k s t
      → Kin k (with_scene (meanwhile (place_now shelf s.world) one s.world) s)
      (with_scene (meanwhile (place_now shelf' t.world) one t.world) t)
  meanwhile_kin one s t kin =
      let place = place_now shelf s.world in
      let a = meanwhile place one s.world in
      let same : a ≡ meanwhile (place_now shelf' t.world) one t.world =
      ap (λ o. meanwhile o one s.world) (here s kin.so)
      ∙ ap (λ w. meanwhile (place_now shelf' w) one w) (same_world k s t kin) in
      subst (λ (b : Scene). Kin k (with_scene a s) (with_scene b t)) same
      (more_kin k (in_world a.world s) (in_world a.world t)
      (world_kin k s t kin a.world a.world refl (meanwhile_holds k dwells place one s kin.so))
      a.lines [] [])

  -- ---- answers

  -- the same answers, and kin steps
  abbrev pub Given : HostOut × Step → HostOut × Step → Type 0
  Given a b = (a.0 ≡ b.0) × Kin k a.1 b.1

  -- a reply
  reply_given : (reply : Reply) (one : Key) (keys : List Key) (s t : Step)
      (later later' : Step → HostOut × Step)
      → ((u v : Step) → Kin k (before keys u) (before keys v) → Given (later u) (later' v))
      → Kin k (before keys s) (before keys t)
      → Given (after_reply shelf reply one keys s later)
      (after_reply shelf' reply one keys t later')
  reply_given passes one keys s t later later' laters kin =
      laters (with_scene (meanwhile (place_now shelf s.world) one s.world) (before keys s))
      (with_scene (meanwhile (place_now shelf' t.world) one t.world) (before keys t))
      (meanwhile_kin one (before keys s) (before keys t) kin)
  reply_given reply one keys s t later later' laters kin = (refl, kin)

  -- keys in a dialog
  pub answered_given : (dialog : Dialog) (keys : List Key) (s t : Step)
      → Kin k (before keys s) (before keys t)
      → Given (answered_by shelf dialog keys s) (answered_by shelf' dialog keys t)
  answered_given dialog [] s t kin = (refl, kin)
  answered_given dialog (one ∷ keys) s t kin =
      reply_given (reply_to dialog one) one keys s t (answered_by shelf dialog keys)
      (answered_by shelf' dialog keys) (answered_given dialog keys) (record {
        is = ap (before keys) kin.is ∙ sym (dwells.moves keys (before (one ∷ keys) s));
        so = dwells.takes one keys s kin.so;
      })

  -- an answer by the keys that are left
  pub in_given : (gave : HostOut) (s t : Step) → Kin k s t
      → Given (answered_in (by_keys shelf) gave s) (answered_in (by_keys shelf') gave t)
  in_given (out.Asks dialog) s t kin =
      let same : t.keys ≡ s.keys = ap (λ (u : Step). u.keys) kin.is ∙ dwells.keys s in
      subst (λ (keys : List Key). Given (answered_by shelf dialog s.keys s)
      (answered_by shelf' dialog keys t)) (sym same)
      (answered_given dialog s.keys s t
      (subst (λ (keys : List Key). Kin k s (before keys t)) same kin))
  in_given gave s t kin = (refl, kin)

-- ---- kinships

-- what stands before a step, no dialog sees
pub after_dwells : (p : Step) → Dwells (after p)
after_dwells p = record {
  keys = λ s. refl;
  moves = λ keys s. refl;
  takes = λ one keys s so. tt;
  counts = λ time left s is so. tt;
  expires = λ time s is so. tt;
}

-- what is so of keys and a world is so in dialogs
pub keeping_dwells : (J : Fact) (keeps : InScripts J) → Dwells (keeping J keeps)
keeping_dwells J keeps = record {
  keys = λ s. refl;
  moves = λ keys s. refl;
  takes = λ one keys s so. keeps.takes one keys s.world so;
  counts = λ time left s is so. keeps.counts s.keys s.world time left is so;
  expires = λ time s is so. keeps.expires s.keys s.world time is so;
}
