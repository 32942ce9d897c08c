-- Tasks are followed to their end: what counts them never cuts them off.
use Rattle.std.proofs.Common.{◌≡◌, ℕ, zero, suc, ◌+◌, ◌-◌, ◌<◌, ◌≤◌, List}
use Rattle.std.proofs.Common.{Option, Some, None, refl, sym, ap, ◌∙◌, arith}
use Rattle.std.specs.Prelude.{IfSome}
use Rattle.wap_url.specs.declared.url.Url.{Url}
use Rattle.wap_base.specs.declared.key.Key.{Key}
use Rattle.wap_cardrules.specs.declared.task.Task.{Task}
use Rattle.wap_cardrules.specs.declared.task.Task.TheVariants as task
use Rattle.wap_world.specs.site.Pages.{Pages}
use Rattle.wap_world.specs.Sites.{Site}
use Rattle.wap_world.specs.Decks.{decks_site}
use Rattle.wap_world.specs.World.{World, Place, place_now}
use Rattle.wap_world.specs.Steps.{Step, Once, Next, then_step}
use Rattle.wap_world.specs.Tasks.{go, prev, base_url, with_turn, open_by, task_by, task_once}
use Rattle.wap_world.specs.Tasks.{go_on, onward, act_in, act, visit}
use Rattle.wap_world.specs.Keys.{react}
use Rattle.wap_world.proofs.Laws.{go_falls, prev_falls, leaves_keys}
use Rattle.wap_world.specs.session_laws.Scripts.{GivesNoTurns}

-- ---- turns

-- where it leads to another task, a turn was taken
abbrev pub Spends : World → Once → Type 0
Spends world once = IfSome once.next (λ next. once.step.world.turns < world.turns)

pub any_next : {X : Type 0} (o : Option X) (Fact : Type 0) → Fact → IfSome o (λ x. Fact)
any_next None Fact fact = tt
any_next (Some x) Fact fact = fact

module _ (site : Site) (falls : GivesNoTurns site) where
  turn_spent : (keys : List Key) (place : Option Place) (world : World) (turns : ℕ)
      (next : World → Once) → place_now site.shelf world ≡ place → world.turns ≡ turns
      → ((w : World) → place_now site.shelf w ≡ place → (next w).step.world.turns ≤ w.turns)
      → Spends world (with_turn place keys world turns next)
  turn_spent keys place world zero next here is fall = tt
  turn_spent keys place world (suc turns) next here is fall =
      let spent = record world { turns = turns } in
      any_next (next spent).next ((next spent).step.world.turns < world.turns)
      (omega (is, fall spent here, arith))

  by_spends : (keys : List Key) (place : Option Place) (world : World) (from : Option Url)
      (one : Task) → place_now site.shelf world ≡ place
      → Spends world (task_by site place keys world from one)
  by_spends keys place world from (task.Go one) here =
      turn_spent keys place world world.turns (go site place keys (base_url place from) one) here
      refl (go_falls site falls keys place (base_url place from) one)
  by_spends keys place world from (task.Prev sets) here =
      turn_spent keys place world world.turns (prev site.shelf place keys sets) here refl
      (prev_falls site falls keys place sets)
  by_spends keys place world from (task.Refresh sets) here = tt

  pub task_spends : (keys : List Key) (world : World) (next : Next)
      → Spends world (task_once site keys world next)
  task_spends keys world next =
      by_spends keys (place_now site.shelf world) world next.from next.task refl

-- ---- all that a task leads to

abbrev Rule : Type 0
Rule = List Key → World → Next → Step

-- two rules that are the same for the next task
goes_on_same : (f g : Rule) (step : Step) (next : Option Next)
    → IfSome next (λ one. f step.keys step.world one ≡ g step.keys step.world one)
    → go_on f step next ≡ go_on g step next
goes_on_same f g step None same = refl
goes_on_same f g step (Some one) same = ap (then_step step) same

if_some : {X : Type 0} (o : Option X) (P Q : X → Type 0) → IfSome o P → ((x : X) → P x → Q x)
    → IfSome o Q
if_some None P Q fact onto = tt
if_some (Some x) P Q fact onto = onto x fact

-- without a turn a task leads no further
ends_here : (f : Rule) (world : World) (step : Step) (next : Option Next) → world.turns ≤ 0
    → IfSome next (λ one. step.world.turns < world.turns) → go_on f step next ≡ step
ends_here f world step None none spends = refl
ends_here f world step (Some one) none spends = absurd (omega (none, spends, arith))

module _ (site : Site) (falls : GivesNoTurns site) where
  -- a turn more than there are leads no further
  one_more : (n : ℕ) (keys : List Key) (world : World) (one : Next)
      → world.turns ≤ n → act_in (suc n) site keys world one ≡ act_in n site keys world one
  one_more zero keys world one few =
      let once = task_once site keys world one in
      ends_here (act_in 0 site) world once.step once.next few
      (task_spends site falls keys world one)
  one_more (suc n) keys world one few =
      let once = task_once site keys world one in
      goes_on_same (act_in (suc n) site) (act_in n site) once.step once.next
      (if_some once.next (λ next. once.step.world.turns < world.turns)
      (λ next. act_in (suc n) site once.step.keys once.step.world next
      ≡ act_in n site once.step.keys once.step.world next)
      (task_spends site falls keys world one)
      (λ next spends.
      one_more n once.step.keys once.step.world next (omega (few, spends, arith))))

  some_more : (more : ℕ) (keys : List Key) (world : World) (one : Next)
      → act_in (more + world.turns) site keys world one
      ≡ act_in world.turns site keys world one
  some_more zero keys world one =
      let none : zero + world.turns ≡ world.turns = omega arith in
      ap (λ n. act_in n site keys world one) none
  some_more (suc more) keys world one =
      let count : suc more + world.turns ≡ suc (more + world.turns) = omega arith in
      ap (λ n. act_in n site keys world one) count
      ∙ one_more (more + world.turns) keys world one (omega arith)
      ∙ some_more more keys world one

  enough : (n : ℕ) (keys : List Key) (world : World) (one : Next)
      → world.turns ≤ n → act_in n site keys world one ≡ act_in world.turns site keys world one
  enough n keys world one few =
      let split : n ≡ (n - world.turns) + world.turns = omega (few, arith) in
      ap (λ k. act_in k site keys world one) split
      ∙ some_more (n - world.turns) keys world one

  -- what a task comes to: one navigation, and what it leads to
  pub act_goes_on : (keys : List Key) (world : World) (one : Next)
      → act site keys world one ≡ onward (act site) (task_once site keys world one)
  unfolding act
  act_goes_on keys world one =
      let once = task_once site keys world one in
      sym (one_more world.turns keys world one (omega arith))
      ∙ goes_on_same (act_in world.turns site) (act site) once.step once.next
      (if_some once.next (λ next. once.step.world.turns < world.turns)
      (λ next. act_in world.turns site once.step.keys once.step.world next
      ≡ act site once.step.keys once.step.world next)
      (task_spends site falls keys world one)
      (λ next spends.
      enough world.turns once.step.keys once.step.world next (omega (spends, arith))))

pub visit_goes_on : (site : Site) (place : Option Place) (keys : List Key) (world : World)
    (text : List ℕ)
    → visit site place keys world text ≡ onward (act site) (open_by site place keys text world)
unfolding visit
visit_goes_on site place keys world text = refl

-- ---- keys

-- a key leaves the keys after it, where no script is started
pub keys_left : (pages : Pages) (one : Key) (keys : List Key) (world : World)
    → (react (decks_site pages) one keys world).keys ≡ keys
keys_left pages one keys world =
    ap (λ (step : Step). step.keys) (leaves_keys pages one keys world)
