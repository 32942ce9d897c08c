-- What a key did, and what it left to further keys.
use Rattle.std.proofs.Common.{◌≡◌, ℕ, List, [], ◌∷◌, ◌++◌, Option, Some, None, refl, sym, ap, ◌∙◌}
use Rattle.std.specs.Prelude.{Result}
use Rattle.wap_base.specs.declared.key.Key.{Key}
use Rattle.wap_push.specs.declared.indication.Indication.{Indication}
use Rattle.wap_push.specs.declared.fault.PushFault.{PushFault}
use Rattle.wap_world.specs.Steps.{Step, Once, after_step}
use Rattle.wap_world.specs.Sites.{Call, Site}
use Rattle.wap_world.specs.Tasks.{onward, act}
use Rattle.wap_world.specs.inboxes.Inboxes.{Phone, Stepped}
use Rattle.wap_world.specs.Sessions.{before_all, followed_with, played}
use Rattle.wap_world.specs.scripting.UnitSites.{Pages, units_site}
use Rattle.wap_world.specs.scripting.Waiting.{Waits, State, resumed_once, resumed_step, left_over}
use Rattle.wap_world.specs.scripting.Waiting.{played_from}
use Rattle.wap_world.specs.scripting.Feeding.{Means, Taken, Turns, Feeds, AreFed, after_fed}
use Rattle.wap_world.specs.scripting.Feeding.{last_fed, all_fed}
use Rattle.wap_world.proofs.Joining.{after_assoc, onward_after}
use Rattle.wap_world.specs.scripting.Halves.{once_by}
use Rattle.wap_world.proofs.InboxesLemmas.Counting.{all_assoc, plays_first}
use Rattle.wap_world.proofs.ScriptingLawsLemmas.Keeping.{units_few}

module _ (call : List ℕ → Option Call) (pages : Pages) where
  -- the site of the pages
  abbrev site : Site
  site = units_site call pages

  -- ---- parts of a key

  -- one step before a navigation
  pub after_means : (step : Step) (once : Once) (o : Option Waits) (keys : List Key)
      → once_by pages (after_step step once) o keys ≡ after_step step (once_by pages once o keys)
  after_means step once None keys = refl
  after_means step once (Some one) keys =
      after_assoc step once.step (resumed_once pages one keys once.step.world)

  -- a navigation that waits
  pub waits_means : (once : Once) (one : Waits) → Means call pages
      (record { step = once.step; waiting = Some one })
      (λ keys. onward (act site) (once_by pages once (Some one) keys))
  unfolding resumed_step
  waits_means once one keys =
      onward_after (act site) once.step (resumed_once pages one keys once.step.world)

-- ---- keys, one after the other

module _ (read : List ℕ → Result Indication PushFault) (call : List ℕ → Option Call)
    (pages : Pages) where
  -- a key by what waits before it
  feeds_by : (o : Option Waits) (phone : Phone) (key : Key) (one : Taken)
      → Turns read call pages (record { phone = phone; waiting = o }) key one
      → Feeds read call pages (record { phone = phone; waiting = o }) key one
  feeds_by None phone key one turns keys =
      let site = units_site call pages in
      let over = left_over call pages one.fed.waiting keys one.fed.step.world in
      plays_first read site (units_few call pages) key keys phone
      ∙ ap (λ (first : Stepped). followed_with first (played read site)) (turns keys)
      ∙ all_assoc one.fed.step over
      (played read site over.keys (record { world = over.world; pushes = one.pushes }))
  feeds_by (Some waits) phone key one turns keys =
      let site = units_site call pages in
      let over = left_over call pages one.fed.waiting keys one.fed.step.world in
      ap (λ (first : Stepped). followed_with first (played read site)) (turns keys)
      ∙ all_assoc one.fed.step over
      (played read site over.keys (record { world = over.world; pushes = one.pushes }))

  -- what a key promises, and what follows for all keys after it
  pub feeds : (state : State) (key : Key) (one : Taken) → Turns read call pages state key one
      → Feeds read call pages state key one
  feeds state key one turns = feeds_by state.waiting state.phone key one turns

  -- keys in two parts: what the first did, and then what the others do from the state after these
  pub plays_in_parts : (state : State) (keys : List Key) (feds : List Taken)
      → AreFed read call pages state keys feds → (others : List Key)
      → played_from read call pages state (keys ++ others)
      ≡ before_all (all_fed state feds) (played_from read call pages (last_fed state feds) others)
  plays_in_parts state [] [] fed others = refl
  plays_in_parts state [] (one ∷ more) fed others = absurd fed
  plays_in_parts state (key ∷ keys) [] fed others = absurd fed
  plays_in_parts state (key ∷ keys) (one ∷ more) fed others =
      let next = after_fed one in
      feeds state key one fed.0 (keys ++ others)
      ∙ ap (before_all one.fed.step) (plays_in_parts next keys more fed.1 others)
      ∙ sym (all_assoc one.fed.step (all_fed next more)
      (played_from read call pages (last_fed next more) others))
