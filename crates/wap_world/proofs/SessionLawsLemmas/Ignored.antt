-- Keys that fit nothing.
use Rattle.std.proofs.Common.{◌≡◌, ℕ, true, false, List, Option, Some, None, refl, sym, ap, ◌∙◌}
use Rattle.std.specs.Option.{option_and_then}
use Rattle.std.proofs.lemmas.Bool.{false≢true}
use Rattle.wap_base.specs.declared.key.Key.{Key}
use Rattle.wap_base.specs.declared.key.Key.TheVariants as key
use Rattle.wap_tokens.specs.declared.markup.deck.Node.{Node}
use Rattle.wap_tokens.specs.declared.markup.name.Tag.TheVariants as tags
use Rattle.wap_vars.specs.Variables.{Variables}
use Rattle.wap_cardrules.specs.Dos.{do_task}
use Rattle.wap_cardrules.specs.Fields.{link_task, field_with, numbered}
use Rattle.wap_cardrules.specs.Selects.{options_of}
use Rattle.wap_cardrules.specs.Entering.{OptionChosen, none_chosen, enter_in, choose_in}
use Rattle.wap_cardrules.specs.Entering as entering
use Rattle.wap_world.specs.Sites.{Site}
use Rattle.wap_world.specs.declared.timer.Timer.{Timer}
use Rattle.wap_world.specs.declared.timer.Timer.TheVariants.{Running}
use Rattle.wap_world.specs.World.{World, Place, place_now}
use Rattle.wap_world.specs.Steps.{Step, quiet}
use Rattle.wap_world.specs.Keys.{react, renewed, ignored, at_card, choose_option, after_choice}
use Rattle.wap_world.specs.Keys.{act_or, type_text, after_text, pass_time}
use Rattle.wap_world.specs.session_laws.Ignored.{IsIgnored, is_for_card, option_with, is_running}

-- a dialog's keys fit nothing outside a dialog
pub record IgnoresDialogKeys (site : Site) (keys : List Key) (world : World) : Type 0 where
  pub ok : IsIgnored site key.Ok keys world
  pub cancel : IsIgnored site key.Cancel keys world
  pub answer : (text : List ℕ) → IsIgnored site (key.Answer text) keys world
  pub stop : IsIgnored site key.Stop keys world

pub ignores_dialog_keys : (site : Site) (keys : List Key) (world : World)
    → IgnoresDialogKeys site keys world
unfolding react
ignores_dialog_keys site keys world =
    record { ok = refl; cancel = refl; answer = λ text. refl; stop = refl }

-- an inbox's keys fit nothing without an inbox
pub record IgnoresInboxKeys (site : Site) (keys : List Key) (world : World) : Type 0 where
  pub push : (bytes : List ℕ) → IsIgnored site (key.Push bytes) keys world
  pub inbox : IsIgnored site key.Inbox keys world
  pub follow : (n : ℕ) → IsIgnored site (key.Follow n) keys world

pub ignores_inbox_keys : (site : Site) (keys : List Key) (world : World)
    → IgnoresInboxKeys site keys world
unfolding react
ignores_inbox_keys site keys world =
    record { push = λ bytes. refl; inbox = refl; follow = λ n. refl }

-- a do, a link, a field, an option fit nothing where there is no such
pub ignores_do : (site : Site) (keys : List Key) (world : World) (place : Place) (name : List ℕ)
    → place_now site.shelf (renewed world) ≡ Some place
    → do_task world.vars place.deck place.card name ≡ None
    → IsIgnored site (key.Do name) keys world
unfolding react
ignores_do site keys world place name here none =
    ap (λ (o : Option Place). at_card keys (renewed world) (λ p. act_or (ignored (renewed world))
    site keys (renewed world) (do_task world.vars p.deck p.card name)) o) here
    ∙ ap (act_or (ignored (renewed world)) site keys (renewed world)) none

pub ignores_pick : (site : Site) (keys : List Key) (world : World) (place : Place) (n : ℕ)
    → place_now site.shelf (renewed world) ≡ Some place → link_task world.vars place.card n ≡ None
    → IsIgnored site (key.Pick n) keys world
unfolding react
ignores_pick site keys world place n here none =
    ap (λ (o : Option Place). at_card keys (renewed world) (λ p. act_or (ignored (renewed world))
    site keys (renewed world) (link_task world.vars p.card n)) o) here
    ∙ ap (act_or (ignored (renewed world)) site keys (renewed world)) none

pub ignores_type : (site : Site) (keys : List Key) (world : World) (place : Place) (n : ℕ)
    (text : List ℕ) → place_now site.shelf (renewed world) ≡ Some place
    → field_with tags.Input place.card n ≡ None → IsIgnored site (key.Enter n text) keys world
unfolding react
ignores_type site keys world place n text here none =
    ap
    (at_card keys (renewed world) (λ p. quiet keys (type_text n text p (renewed world))))
    here
    ∙ ap (λ o. quiet keys (after_text (Some place) (record (renewed world) {
      vars = (enter_in world.vars text o).vars;
    }) (enter_in world.vars text o).answer)) none

-- nothing is chosen where there is no such option
chooses_none : (vars : Variables) (m : ℕ) (select : Option Node)
    → option_and_then (λ select. numbered (options_of select) m) select ≡ None
    → choose_in vars m select ≡ none_chosen vars
chooses_none vars m None none = refl
chooses_none vars m (Some select) none = ap (entering.choose_option vars select m) none

pub ignores_option : (site : Site) (keys : List Key) (world : World) (place : Place) (n m : ℕ)
    → place_now site.shelf (renewed world) ≡ Some place → option_with place.card n m ≡ None
    → IsIgnored site (key.Choose n m) keys world
unfolding react
ignores_option site keys world place n m here none =
    ap (at_card keys (renewed world) (λ p. choose_option site keys n m p (renewed world))) here
    ∙ ap (λ (made : OptionChosen). after_choice site keys (Some place) (record (renewed world) {
      vars = made.vars;
    }) made.answer) (chooses_none world.vars m (field_with tags.Select place.card n) none)

-- time passes only for a timer that runs
idle : (site : Site) (keys : List Key) (n : ℕ) (timer : Timer) (place : Place) (world : World)
    → is_running timer ≡ false
    → pass_time site keys n timer place world ≡ quiet keys (ignored world)
idle site keys n (Running time) place world off = absurd (false≢true (sym off))
idle site keys n _ place world off = refl

pub ignores_tick : (site : Site) (keys : List Key) (world : World) (n : ℕ)
    → is_running world.timer ≡ false → IsIgnored site (key.Tick n) keys world
unfolding react
ignores_tick site keys world n off = tick_by (place_now site.shelf (renewed world))
  where
    tick_by : (place : Option Place)
        → at_card keys (renewed world)
        (λ p. pass_time site keys n world.timer p (renewed world)) place
        ≡ quiet keys (ignored (renewed world))
    tick_by None = refl
    tick_by (Some place) = idle site keys n world.timer place (renewed world) off

-- without a card only a URL that is opened and the variables fit
at_none : (keys : List Key) (world : World) (rule : Place → Step) (place : Option Place)
    → place ≡ None → at_card keys world rule place ≡ quiet keys (ignored world)
at_none keys world rule place none = ap (at_card keys world rule) none

pub ignores_without_card : (site : Site) (one : Key) (keys : List Key) (world : World)
    → is_for_card one ≡ true → place_now site.shelf (renewed world) ≡ None
    → IsIgnored site one keys world
unfolding react
ignores_without_card site (key.Open url) keys world is none = absurd (false≢true is)
ignores_without_card site key.Ok keys world is none = refl
ignores_without_card site key.Cancel keys world is none = refl
ignores_without_card site (key.Answer text) keys world is none = refl
ignores_without_card site key.Stop keys world is none = refl
ignores_without_card site key.Vars keys world is none = absurd (false≢true is)
ignores_without_card site (key.Push bytes) keys world is none = absurd (false≢true is)
ignores_without_card site key.Inbox keys world is none = absurd (false≢true is)
ignores_without_card site (key.Follow n) keys world is none = absurd (false≢true is)
ignores_without_card site _ keys world is none = at_none keys (renewed world) _ _ none
