-- What is played where no key follows: one key is used up, and none shows nothing.
use Rattle.std.proofs.Common.{◌≡◌, ◌≤◌, List, [], ◌∷◌, Option, Some, None, refl, sym, ap, ◌∙◌}
use Rattle.std.proofs.Common.{arith, length}
use Rattle.std.specs.Prelude.{is_some}
use Rattle.wap_base.specs.declared.key.Key.{Key}
use Rattle.wap_push.specs.Pushes.{push_at}
use Rattle.wap_execution.specs.declared.dialog.Dialog.{Dialog}
use Rattle.wap_execution.specs.laws.Settings.{uncounted}
use Rattle.wap_execution.specs.laws.Keyed.{gone_on}
use Rattle.wap_world.specs.World.{World}
use Rattle.wap_world.specs.Steps.{Step, then_step, quiet, still}
use Rattle.wap_world.specs.inboxes.Inboxes.{Phone, taking_none, react_with}
use Rattle.wap_world.specs.Sessions.{before_all, played_in, played}
use Rattle.wap_world.proofs.Joining.{before, joined_nothing}
use Rattle.wap_world.proofs.InboxesLemmas.Counting.{few_with}
use Rattle.wap_world.proofs.Laws.{ended_few}
use Rattle.wap_world.specs.scripting.Dialogs.{Reply, answers, ends_it, passes, reply_to}
use Rattle.wap_world.specs.scripting.Dialogs.{after_reply, answered_by}
use Rattle.wap_world.specs.scripting.UnitSites.{Pages, shelf_of, keyed_host, ran_of, units_site}
use Rattle.wap_world.specs.scripting.Waiting.{Waits, inside, resumed_step, played_from}
use Rattle.wap_world.specs.scripting.Feeding.{turned}
use Rattle.wap_world.proofs.ScriptingLawsLemmas.Keeping.{gone_few, units_few}
use Rattle.wap_context.specs.Sites.{fragment_call, site_of}

-- ---- keys that are left

module _ (pages : Pages) where
  -- a dialog takes a key, whatever it replies
  reply_none : (reply : Reply) (dialog : Dialog) (key : Key) (s : Step)
      → length (after_reply (shelf_of pages) reply key [] s
      (answered_by (shelf_of pages) dialog [])).1.keys ≤ 0
  reply_none (answers v) dialog key s = omega arith
  reply_none ends_it dialog key s = omega arith
  reply_none passes dialog key s = omega arith

  -- and so does a script that waits
  resumed_none : (one : Waits) (w : World) (key : Key)
      → length (resumed_step fragment_call pages one (key ∷ []) w).keys ≤ 0
  unfolding resumed_step units_site
  resumed_none one w key =
      let shelf = shelf_of pages in
      let s = quiet (key ∷ []) (still (inside w)) in
      let got = answered_by shelf one.dialog (key ∷ []) s in
      let first : length got.1.keys ≤ 0 = reply_none (reply_to one.dialog key) one.dialog key s in
      let end = gone_on (uncounted one.limits (keyed_host pages)) (λ e. e) one.frames got.0 w.turns
      got.1 in
      let second = gone_few pages one.limits one.frames got.0 w.turns got.1 in
      let ran = ran_of end in
      ended_few (site_of pages) (units_few fragment_call pages) one.base ran 0
      (omega (arith, first, second))

  -- in a dialog and outside
  turned_none : (o : Option Waits) (phone : Phone) (key : Key)
      → length (turned push_at fragment_call pages o phone key []).step.keys ≤ 0
  turned_none None phone key =
      few_with push_at (site_of pages) (units_few fragment_call pages) key [] phone
  turned_none (Some one) phone key = resumed_none one phone.world key

-- a list without length
none_of : (keys : List Key) → length keys ≤ 0 → keys ≡ []
none_of [] few = refl
none_of (key ∷ keys) few = absurd (omega (arith, few))

-- ---- what it comes to

-- a step that left no keys, before any others
closed : (r : Step) → r.keys ≡ [] → then_step r (quiet [] (still r.world)) ≡ r
closed r none = joined_nothing r [] ∙ ap (λ (keys : List Key). before keys r) (sym none)

-- a key that is played alone is played without further ones
pub alone : (pages : Pages) (o : Option Waits) (phone : Phone) (key : Key)
    → played_from push_at fragment_call pages (record { phone = phone; waiting = o }) (key ∷ [])
    ≡ turned push_at fragment_call pages o phone key []
unfolding played
alone pages None phone key =
    let r = react_with push_at (site_of pages) key [] phone in
    let none = none_of r.step.keys (turned_none pages None phone key) in
    ap (λ (keys : List Key). before_all r.step (played_in push_at 0 (site_of pages) keys
    (record { world = r.step.world; pushes = r.pushes }))) none
    ∙ ap (λ (s : Step). record { step = s; pushes = r.pushes }) (closed r.step none)
alone pages (Some one) phone key =
    let r = resumed_step fragment_call pages one (key ∷ []) phone.world in
    let none = none_of r.keys (turned_none pages (Some one) phone key) in
    ap (λ (keys : List Key). before_all r (played push_at (site_of pages) keys
    (record { world = r.world; pushes = phone.pushes }))) none
    ∙ ap (λ (s : Step). record { step = s; pushes = phone.pushes }) (closed r none)

-- no keys show nothing, and a dialog that waits stays open
pub none_played : (pages : Pages) (o : Option Waits) (phone : Phone)
    → played_from push_at fragment_call pages (record { phone = phone; waiting = o }) []
    ≡ taking_none phone (record (quiet [] (still phone.world)) { is_open = is_some o })
unfolding played resumed_step
none_played pages None phone = refl
none_played pages (Some one) phone = refl
