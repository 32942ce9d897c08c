-- A go to a deck that may not be entered.
use Rattle.std.proofs.Common.{◌≡◌, ℕ, suc, Bool, false, List, [], ◌∷◌, Option, Some, None, ap, ◌∙◌}
use Rattle.wap_world.specs.Shelves.{deck_page}
use Rattle.std.specs.Prelude.{Ok, if◌then◌else◌}
use Rattle.wap_base.specs.declared.key.Key.{Key}
use Rattle.wap_url.specs.declared.url.Url.{Url}
use Rattle.wap_url.specs.Printing.{name_for}
use Rattle.wap_tokens.specs.declared.markup.deck.Deck.{Deck}
use Rattle.wap_cardrules.specs.declared.task.Go.{Go}
use Rattle.wap_cardrules.specs.declared.task.Task.TheVariants as task
use Rattle.wap_world.specs.declared.refusal.Refusal.TheVariants as refusals
use Rattle.wap_world.specs.Sites.{Site}
use Rattle.wap_world.specs.World.{World, Place, place_now}
use Rattle.wap_world.specs.Steps.{Step, settled, then_task}
use Rattle.wap_world.specs.Screens.{refuse}
use Rattle.wap_world.specs.Access.{may_enter, entrance_of}
use Rattle.wap_world.specs.Urls.{target_of}
use Rattle.wap_world.specs.Requests.{Request, request_of, request_line, answer_to}
use Rattle.wap_world.specs.Tasks.{is_here, here_with, arrive, request, stay_or_ask, unless_refused}
use Rattle.wap_world.specs.Tasks.{go, with_turn, task_by, task_once, onward, act_in, act}
use Rattle.wap_world.proofs.Laws.{denies}

-- a request's line, name and test, and then the refusal
abbrev refusal_step : Option Place → List Key → Option Url → Request → World → Step
refusal_step place keys caller one world =
    let again = refuse place refusals.Denied world in record {
      world = again.world;
      keys = keys;
      lines = request_line one ∷ again.lines;
      asked = (name_for one.url, one.fresh) ∷ [];
      tests = record { page = name_for one.url; caller = caller; allowed = false } ∷ [];
      is_open = false;
    }

pub denies_go : (site : Site) (keys : List Key) (one : Go) (world : World) (place : Place)
    (url : Url) (deck : Deck) (turns : ℕ)
    → let caller = Some place.url in
    let asked = request_of caller one url in
    let spent = record world { turns = turns } in
    world.turns ≡ suc turns → place_now site.shelf world ≡ Some place
    → target_of caller one.href ≡ Ok url → is_here asked place ≡ false
    → answer_to site.shelf asked ≡ deck_page deck
    → may_enter asked.url (entrance_of deck) caller ≡ false
    → act site keys world (then_task (task.Go one))
    ≡ refusal_step (Some place) keys caller asked spent
unfolding act
denies_go site keys one world place url deck turns some here target elsewhere found no_entry =
    let caller = Some place.url in
    let asked = request_of caller one url in
    let spent = record world { turns = turns } in
    let now = Some place in
    let once : task_once site keys world (then_task (task.Go one))
    ≡ settled (refusal_step now keys caller asked spent) =
    ap (λ o. task_by site o keys world None (task.Go one)) here
    ∙ ap (λ n. with_turn now keys world n (go site now keys caller one)) some
    ∙ ap (unless_refused now keys spent
    (λ u. stay_or_ask site now keys one.sets caller (request_of caller one u) spent)) target
    ∙ ap (λ (b : Bool). if b
    then arrive now keys one.sets (here_with place asked.url) spent place.deck
    else request site now keys one.sets caller asked spent) elsewhere
    ∙ denies site now keys one.sets caller asked spent deck found no_entry in
    ap (λ n. act_in n site keys world (then_task (task.Go one))) some
    ∙ ap (onward (act_in turns site)) once
