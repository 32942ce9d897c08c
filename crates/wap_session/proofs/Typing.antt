-- Fields of the card at hand.
use Rattle.std.proofs.Common.{◌≡◌, ℕ, true, false, List, [], Option, Some, None, refl, sym}
use Rattle.std.proofs.Common.{ap, subst, ◌∙◌}
use Rattle.std.specs.Prelude.{is_some, not}
use Rattle.std.specs.Option.{option_map_or, option_and_then}
use Rattle.wap_base.specs.declared.key.Key.{Key}
use Rattle.wap_push.specs.declared.indication.Indication.{Indication}
use Rattle.wap_cardrules.specs.Dos.{do_task}
use Rattle.wap_cardrules.specs.Fields.{link_task}
use Rattle.wap_cardrules.specs.declared.task.Task.TheVariants.{Prev}
use Rattle.std.specs.List.{flat_map}
use Rattle.wap_vars.specs.declared.fault.VarFault.{VarFault}
use Rattle.wap_base.specs.declared.key.Key.TheVariants as key
use Rattle.wap_cardrules.specs.declared.answers.Entered.{Entered}
use Rattle.wap_cardrules.specs.declared.answers.Entered.TheVariants as entered
use Rattle.wap_cardrules.specs.declared.answers.Chosen.{Chosen}
use Rattle.wap_cardrules.specs.declared.answers.Chosen.TheVariants as chosen
use Rattle.wap_cardrules.specs.declared.task.Task.{Task}
use Rattle.wap_cardrules.specs.Entering.{TextEntered, enter_text, OptionChosen, none_chosen, choose}
use Rattle.wap_world.specs.Sites.{Site}
use Rattle.wap_world.specs.scripting.UnitSites.{Pages, shelf_of}
use Rattle.wap_context.specs.Sites.{site_of}
use Rattle.wap_world.specs.World.{World, Place}
use Rattle.wap_world.specs.Steps.{Scene, Step, quiet, then_task}
use Rattle.wap_world.specs.Tasks.{act}
use Rattle.wap_world.specs.Setting.{fault_lines}
use Rattle.wap_world.specs.Screens.{show}
use Rattle.wap_world.specs.Keys.{ignored, act_or, type_text, after_text}
use Rattle.wap_world.specs.Keys.{choose_option, after_choice, at_card, apply, pass_time}
use Rattle.wap_context.specs.Browsers.{Browser, IsOver, Shows, with_vars, typed_in, chosen_in}
use Rattle.wap_context.specs.Browsers.{place_held}
use Rattle.wap_session.specs.Ignoring.{fits_nothing}
use Rattle.wap_session.specs.inside.Pressing.{press_rule, typed}
use Rattle.wap_session.proofs.Rules.{LeadsTo}

-- ---- a text

abbrev typed_at : World → ℕ → List ℕ → Option Place → TextEntered
typed_at world n text place =
    option_map_or (λ (one : Place). enter_text world.vars one.card n text) place
    (record { vars = world.vars; answer = entered.NoInput })

typed_by : (world : World) (n : ℕ) (text : List ℕ) (place : Option Place)
    → after_text place (record world { vars = (typed_at world n text place).vars })
    (typed_at world n text place).answer ≡ typed n text place world
typed_by world n text None = refl
typed_by world n text (Some place) = refl

-- what is shown after the answer is what the text shows
pub enters : (old mid new : Browser) (n : ℕ) (text : List ℕ) (answer : Entered)
    (lines : List (List ℕ))
    → mid ≡ with_vars (typed_in old n text).vars old → answer ≡ (typed_in old n text).answer
    → Shows (λ place world. after_text place world answer) mid new [] lines
    → Shows (typed n text) old new [] lines
enters old mid new n text answer lines set is shows =
    let place = place_held old in
    let first = with_vars (typed_in old n text).vars old in
    let so : Shows (λ place world. after_text place world answer) first new [] lines =
    subst (λ (browser : Browser).
    Shows (λ place world. after_text place world answer) browser new [] lines) set shows in
    let same : after_text place first.world answer ≡ typed n text place old.world =
    ap (after_text place first.world) is ∙ typed_by old.world n text place in
    record {
      plays = record {
        world = so.plays.world ∙ ap (λ (scene : Scene). scene.world) same;
        lines = so.plays.lines ∙ ap (λ (scene : Scene). scene.lines) same;
        kept = so.plays.kept;
      };
      deck = so.deck;
    }

-- ---- an option

abbrev chosen_at : World → (n m : ℕ) → Option Place → OptionChosen
chosen_at world n m place =
    option_map_or (λ (one : Place). choose world.vars one.card n m) place (none_chosen world.vars)

chosen_by : (site : Site) (keys : List Key) (world : World) (n m : ℕ) (place : Option Place)
    → apply site place keys world (key.Choose n m)
    ≡ after_choice site keys place (record world { vars = (chosen_at world n m place).vars })
    (chosen_at world n m place).answer
chosen_by site keys world n m None = refl
chosen_by site keys world n m (Some place) = refl

-- by the answer at the place at hand
chosen_now : (old mid : Browser) (n m : ℕ) (answer : Chosen)
    → mid ≡ with_vars (chosen_in old n m).vars old → answer ≡ (chosen_in old n m).answer
    → (pages : Pages) → IsOver (shelf_of pages) old → IsOver (shelf_of pages) mid
    × ((keys : List Key) → apply (site_of pages) (place_held old) keys old.world (key.Choose n m)
    ≡ after_choice (site_of pages) keys (place_held mid) mid.world answer)
chosen_now old mid n m answer set is pages over = (
  subst (λ (browser : Browser). IsOver (shelf_of pages) browser) (sym set) over,
  λ keys.
      let place = place_held old in
      let first = with_vars (chosen_in old n m).vars old in
      chosen_by (site_of pages) keys old.world n m place
      ∙ ap (after_choice (site_of pages) keys place first.world) (sym is)
      ∙ ap (λ (browser : Browser). after_choice (site_of pages) keys (place_held browser)
      browser.world answer) (sym set),
)

-- the lines of refused sets, and then the task of onpick or show
pub chosen_leads : (old mid : Browser) (n m : ℕ) (faults : List VarFault) (task : Option Task)
    → mid ≡ with_vars (chosen_in old n m).vars old
    → chosen.Set faults task ≡ (chosen_in old n m).answer
    → LeadsTo (flat_map fault_lines faults)
    (λ pages keys world. act_or (show (place_held mid) world) (site_of pages) keys world task)
    (λ pages keys world. apply (site_of pages) (place_held old) keys world (key.Choose n m)) mid old
chosen_leads old mid n m faults task = chosen_now old mid n m (chosen.Set faults task)

-- no option: the key fits nothing
pub chosen_none : (old mid : Browser) (n m : ℕ) → mid ≡ with_vars (chosen_in old n m).vars old
    → chosen.NoOption ≡ (chosen_in old n m).answer
    → LeadsTo [] (λ pages keys world. quiet keys (ignored world))
    (λ pages keys world. apply (site_of pages) (place_held old) keys world (key.Choose n m)) mid old
chosen_none old mid n m = chosen_now old mid n m chosen.NoOption

-- ---- keys by the place

module _ (site : Site) (keys : List Key) (world : World) where
  -- a text that is entered
  pub typed_keys : (n : ℕ) (text : List ℕ) (place : Option Place)
      → apply site place keys world (key.Enter n text) ≡ quiet keys (typed n text place world)
  typed_keys n text None = refl
  typed_keys n text (Some place) = refl

  -- a task of the card, or a key that fits nothing
  pub tasked_by : (task : Place → Option Task) (place : Option Place)
      → at_card keys world (λ (one : Place). act_or (ignored world) site keys world (task one))
      place
      ≡ act_or (ignored world) site keys world (option_and_then task place)
  tasked_by task None = refl
  tasked_by task (Some place) = refl

  -- a rule where a card is
  pub card_some : (rule : Step) (place : Option Place) → is_some place ≡ true
      → at_card keys world (λ (one : Place). rule) place ≡ rule
  card_some rule None some = absurd cc
  card_some rule (Some place) some = refl

  -- and any where none is
  pub card_none : (rule : Place → Step) (place : Option Place) → is_some place ≡ false
      → at_card keys world rule place ≡ quiet keys (ignored world)
  card_none rule None none = refl
  card_none rule (Some place) none = absurd cc

-- ---- keys that fit nothing

is_none_by : (o : Option Place) → not (is_some o) ≡ true → is_some o ≡ false
is_none_by None none = refl
is_none_by (Some place) none = absurd cc

-- each of them
pub fits : (one : Key) (pushes : List Indication) (pages : Pages) (keys : List Key) (w : World)
    (place : Option Place) → fits_nothing (is_some place) one ≡ true
    → press_rule place pushes one pages keys w ≡ quiet keys (ignored w)
fits (key.Do name) pushes pages keys w place nothing =
    card_none (site_of pages) keys w (λ p. act_or (ignored w) (site_of pages) keys w
    (do_task w.vars p.deck p.card name)) place (is_none_by place nothing)
fits (key.Pick n) pushes pages keys w place nothing =
    card_none (site_of pages) keys w (λ p. act_or (ignored w) (site_of pages) keys w
    (link_task w.vars p.card n)) place (is_none_by place nothing)
fits (key.Enter n text) pushes pages keys w place nothing =
    card_none (site_of pages) keys w (λ p. quiet keys (type_text n text p w)) place
    (is_none_by place nothing)
fits (key.Choose n m) pushes pages keys w place nothing =
    card_none (site_of pages) keys w (λ p. choose_option (site_of pages) keys n m p w) place
    (is_none_by place nothing)
fits key.Back pushes pages keys w place nothing =
    card_none (site_of pages) keys w (λ p. act (site_of pages) keys w (then_task (Prev []))) place
    (is_none_by place nothing)
fits (key.Tick n) pushes pages keys w place nothing =
    card_none (site_of pages) keys w (λ p. pass_time (site_of pages) keys n w.timer p w) place
    (is_none_by place nothing)
fits key.Ok pushes pages keys w place nothing = refl
fits key.Cancel pushes pages keys w place nothing = refl
fits (key.Answer text) pushes pages keys w place nothing = refl
fits key.Stop pushes pages keys w place nothing = refl
fits _ pushes pages keys w place nothing = absurd cc
