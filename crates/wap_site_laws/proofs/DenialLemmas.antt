-- Goes and calls that are denied, with their turns.
use Rattle.std.proofs.Common.{◌≡◌, ◌++◌, ℕ, suc, Bool, false, List, [], ◌∷◌, Option, Some, None}
use Rattle.std.proofs.Common.{length, refl, ap, ◌∙◌}
use Rattle.std.specs.Prelude.{Ok, if◌then◌else◌}
use Rattle.std.specs.Option.{option_map_or}
use Rattle.wap_base.specs.declared.limits.Limits.{Limits}
use Rattle.wap_base.specs.declared.key.Key.{Key}
use Rattle.wap_url.specs.declared.url.Url.{Url}
use Rattle.wap_url.specs.Printing.{name_for}
use Rattle.wap_value.specs.declared.value.Value.{Value}
use Rattle.wap_unit.specs.declared.unit.Unit.{Unit as CodeUnit}
use Rattle.wap_execution.specs.declared.fatal.Fatal.TheVariants.{Denied}
use Rattle.wap_execution.specs.declared.found.Found.{Found}
use Rattle.wap_execution.specs.Frames.{Function}
use Rattle.wap_execution.specs.Effects.{external, calls}
use Rattle.wap_execution.specs.Outcomes.{fatal}
use Rattle.wap_execution.specs.Running.{Enter, Onward, at_place, called, ended, entered}
use Rattle.wap_execution.specs.Running.{followed_by, returned}
use Rattle.wap_execution.specs.laws.Settings.{uncounted}
use Rattle.wap_cardrules.specs.declared.task.Go.{Go}
use Rattle.wap_cardrules.specs.declared.task.Task.TheVariants as task
use Rattle.wap_cardrules.specs.Values.{Pairs}
use Rattle.wap_world.specs.Shelves.{Entrance, script_page}
use Rattle.wap_world.specs.Sites.{Site}
use Rattle.wap_world.specs.World.{World, Place, place_now}
use Rattle.wap_world.specs.Steps.{Step, Next, settled}
use Rattle.wap_world.specs.Urls.{target_of}
use Rattle.wap_world.specs.Access.{may_enter}
use Rattle.wap_world.specs.Screens.{show}
use Rattle.wap_world.specs.Requests.{Request, plain_get, request_of, request_line, answer_to}
use Rattle.wap_world.specs.Starting.{script_line}
use Rattle.wap_world.specs.Tasks.{base_url, is_here, here_with, arrive, request, stay_or_ask}
use Rattle.wap_world.specs.Tasks.{unless_refused, with_turn, go, task_once, onward, act_in, act}
use Rattle.wap_world.specs.scripting.UnitSites.{Pages, shelf_of, keyed_host}
use Rattle.wap_world.proofs.Laws.{denies_script}
use Rattle.wap_world.proofs.ScriptingLawsLemmas.Refusing.{refuses_call}

-- ---- goes

-- a page that isn't the current deck is asked for
asks : (site : Site) (place : Option Place) (keys : List Key) (sets : Pairs)
    (caller : Option Url) (one : Request) (world : World)
    → option_map_or (is_here one) place false ≡ false
    → stay_or_ask site place keys sets caller one world
    ≡ request site place keys sets caller one world
asks site None keys sets caller one world elsewhere = refl
asks site (Some place) keys sets caller one world elsewhere =
    ap (λ (b : Bool). if b
    then arrive (Some place) keys sets (here_with place one.url) world place.deck
    else request site (Some place) keys sets caller one world) elsewhere

-- a request's line, name and test, and then the denial
abbrev denial_step : Option Place → List Key → Option Url → Request → World → Step
denial_step place keys caller one world =
    let again = show place world in record {
      world = again.world;
      keys = keys;
      lines = request_line one ∷ script_line Denied ∷ again.lines;
      asked = (name_for one.url, one.fresh) ∷ [];
      tests = record { page = name_for one.url; caller = caller; allowed = false } ∷ [];
      is_open = false;
    }

pub denies_go : (site : Site) (keys : List Key) (one : Go) (from : Option Url) (world : World)
    (url : Url) (entrance : Option Entrance) (turns : ℕ)
    → let place = place_now site.shelf world in
    let caller = base_url place from in
    let asked = request_of caller one url in
    world.turns ≡ suc turns → target_of caller one.href ≡ Ok url
    → option_map_or (is_here asked) place false ≡ false
    → answer_to site.shelf asked ≡ script_page entrance
    → may_enter asked.url entrance caller ≡ false
    → act site keys world (record { task = task.Go one; from = from })
    ≡ denial_step place keys caller asked (record world { turns = turns })
unfolding act
denies_go site keys one from world url entrance turns some target elsewhere found no_entry =
    let place = place_now site.shelf world in
    let caller = base_url place from in
    let asked = request_of caller one url in
    let spent = record world { turns = turns } in
    let next : Next = record { task = task.Go one; from = from } in
    let once : task_once site keys world next
    ≡ settled (denial_step place keys caller asked spent) =
    ap (λ (n : ℕ). with_turn place keys world n (go site place keys caller one)) some
    ∙ ap (unless_refused place keys spent
    (λ u. stay_or_ask site place keys one.sets caller (request_of caller one u) spent)) target
    ∙ asks site place keys one.sets caller asked spent elsewhere
    ∙ denies_script site place keys one.sets caller asked spent entrance found no_entry in
    ap (λ (n : ℕ). act_in n site keys world next) some
    ∙ ap (onward (act_in turns site)) once

-- ---- calls

pub denies_call : (pages : Pages) (limits : Limits) (working : ℕ) (enter : Enter Step)
    (function : Function) (on again : Onward Step) (target name : List ℕ)
    (arguments variables operands : List Value) (place turns : ℕ) (step : Step) (url : Url)
    (entrance : Option Entrance)
    → target_of (Some function.base) target ≡ Ok url
    → shelf_of pages (name_for url) ≡ script_page entrance
    → may_enter url entrance (Some function.base) ≡ false
    → followed_by (called (uncounted limits (keyed_host pages)) working enter function)
    function on again (calls (external target name) arguments place variables operands)
    (suc turns) step
    ≡ ended (fatal Denied) turns (record step {
      lines = step.lines ++ request_line (plain_get url) ∷ [];
      asked = step.asked ++ (name_for url, false) ∷ [];
      tests = step.tests ++ record {
        page = name_for url;
        caller = Some function.base;
        allowed = false;
      } ∷ [];
    })
denies_call pages limits working enter function on again target name arguments variables operands
    place turns step url entrance to_page is_script denied =
    ap (λ (found : Found CodeUnit × Step).
    returned (at_place function place variables operands ∷ [])
    (λ v. on place variables (v ∷ operands))
    (entered enter function.base arguments found.0 turns found.1))
    (refuses_call pages step function.base url target name (length arguments) working entrance
    to_page is_script denied)
