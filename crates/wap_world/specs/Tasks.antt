-- Navigation (WAP-191, sections 9.2, 9.3, 9.5, 9.10, 10.2 and 12.5): go, open, prev and refresh.
-- One of them is settled, or leads to a task that is next: that of an event, or what a script asked
-- for. Turns are this project's own. The steps of a go:
--    1. A turn is taken, if one is left.
--    2. Its href, setvars and postfields are filled: a task is, when it is taken.
--    3. The href is a reference to the current deck's URL (without a card, to that of the script
--       that asked), and has to come to a page's.
--    4. Postfields are the body of a post, and go after the query of a get.
--    5. With get the current deck isn't asked for again, unless it is to be fetched anew: on with
-- step 8.
--    6. The request is shown, and the page is asked for.
--    7. The page's access element, or a script's access pragmas, decide whether it may be entered
-- from the current deck. A script is then started (`Starting`).
--    8. The card whose id is the fragment is taken, else the first.
--    9. The old card is left.
--   10. Variables are set.
--   11. A new context clears variables and history.
--   12. The card is pushed onto the history.
--   13. It is entered forward.
use Rattle.std.specs.Prelude.{ℕ, zero, suc, Bool, true, false, ◌&&◌, not, is_none, if◌then◌else◌}
use Rattle.std.specs.Prelude.{unwrap_or, slice_get, List, [], Option, Some, None, Result, Ok, Err}
use Rattle.std.specs.Option.{option_map, option_map_or, option_and_then}
use Rattle.wap_base.specs.declared.key.Key.{Key}
use Rattle.wap_url.specs.declared.url.Url.{Url}
use Rattle.wap_url.specs.Printing.{name_for}
use Rattle.wap_tokens.specs.declared.markup.deck.Deck.{Deck}
use Rattle.wap_tokens.specs.declared.markup.name.AttrName.TheVariants as attrs
use Rattle.wap_tokens.specs.markup.Cards.{cards_of, card_numbered}
use Rattle.wap_cardrules.specs.declared.task.Task.{Task}
use Rattle.wap_cardrules.specs.declared.task.Task.TheVariants as task
use Rattle.wap_cardrules.specs.declared.task.Go.{Go}
use Rattle.wap_cardrules.specs.declared.event.Event.TheVariants.{Forward, Backward}
use Rattle.wap_cardrules.specs.Values.{is_true, Pairs}
use Rattle.wap_world.specs.declared.history.Entry.{Entry}
use Rattle.wap_world.specs.declared.timer.Timer.TheVariants.{NotStarted}
use Rattle.wap_world.specs.declared.refusal.Refusal.{Refusal}
use Rattle.wap_world.specs.declared.refusal.Refusal.TheVariants as refusals
use Rattle.wap_world.specs.Shelves.{Entrance, Shelf, Shelved, deck_page, script_page, no_page}
use Rattle.wap_world.specs.Sites.{Call, Script, Site, script_of}
use Rattle.wap_world.specs.Access.{entrance_of}
use Rattle.wap_world.specs.Starting.{start_if}
use Rattle.wap_world.specs.World.{World, Place, place_in, place_now}
use Rattle.wap_world.specs.Steps.{Scene, Step, Once, Next, and_then, quiet, followed, settled}
use Rattle.wap_world.specs.Steps.{after_step}
use Rattle.wap_world.specs.History.{entry_of, pushed, earlier_entry, in_deck, back_at}
use Rattle.wap_world.specs.Setting.{set_variables}
use Rattle.wap_world.specs.Screens.{at_place, restart_place, refuse}
use Rattle.wap_world.specs.Entering.{leave, enter}
use Rattle.wap_world.specs.Urls.{target_of, is_same_page}
use Rattle.wap_world.specs.Requests.{Request, plain_get, request_of, ask, answer_to, test_of, test}

-- ---- what navigations share

-- a navigation that ends with a refusal, after which the current card is shown
abbrev pub refusing : Option Place → List Key → Refusal → World → Once
refusing place keys refusal world = settled (quiet keys (refuse place refusal world))

-- the current card is left, and variables are set
abbrev pub leave_and_set : Option Place → Pairs → World → Scene
leave_and_set place sets world = and_then (leave place world) (set_variables sets)

-- the URL of the current deck
abbrev pub deck_url : Option Place → Option Url
deck_url place = option_map (λ one. one.url) place

-- the URL of the current deck; without a card, that of the script that asked
abbrev pub base_url : Option Place → Option Url → Option Url
base_url place from = option_map_or Some (deck_url place) from

-- on with what was found, or its refusal
abbrev pub unless_refused
    : {A : Type 0} → Option Place → List Key → World → (A → Once) → Result A Refusal → Once
unless_refused place keys world next (Ok found) = next found
unless_refused place keys world next (Err refusal) = refusing place keys refusal world

-- a turn is taken, if one is left
abbrev pub with_turn : Option Place → List Key → World → ℕ → (World → Once) → Once
with_turn place keys world zero next = refusing place keys refusals.Budget world
with_turn place keys world (suc turns) next = next (record world { turns = turns })

-- ---- go, by the steps of its rule

-- 8: the card whose id is the fragment, else the first
abbrev pub card_for : Deck → Url → ℕ
card_for deck url = unwrap_or (option_and_then (λ id. card_numbered id deck) url.fragment) 0

-- 11: whether the card begins a new context
abbrev pub is_new_context : Deck → ℕ → Bool
is_new_context deck number =
    option_map_or (is_true attrs.Newcontext) (slice_get (cards_of deck) number) false

-- a new context clears variables and history, so that there is no card and no timer is started
abbrev pub in_context : Deck → ℕ → World → World
in_context deck number world =
    if is_new_context deck number
    then record world { vars = []; history = []; timer = NotStarted } else world

-- 9 to 13: the old card is left, variables are set, the new card is pushed and entered
abbrev pub arrive : Option Place → List Key → Pairs → Url → World → Deck → Once
arrive place keys sets url world deck =
    let number = card_for deck url in
    let entry = entry_of url number in
    let left = leave_and_set place sets world in
    let inside = pushed (in_context deck number left.world) entry in
    after_step (quiet keys left) (enter (place_in entry deck) keys Forward inside)

-- 7: whether the deck may be entered
abbrev pub arrive_if : Option Place → List Key → Pairs → Url → World → Deck → Bool → Once
arrive_if place keys sets url world deck true = arrive place keys sets url world deck
arrive_if place keys sets url world deck false = refusing place keys refusals.Denied world

-- the test is made, and the deck is entered where it may be
abbrev pub try_deck : Option Place → List Key → Pairs → Option Url → Url → World → Deck → Once
try_deck place keys sets caller url world deck =
    let one = test_of url caller (entrance_of deck) in
    after_step (test keys one world) (arrive_if place keys sets url world deck one.allowed)

-- the test is made, and the script's function that is called is started where it may be
abbrev pub try_script : Shelf → Script → Option Place → List Key → Pairs → Option Url → Url
    → World → Option Call → Option Entrance → Once
try_script shelf script place keys sets caller url world call entrance =
    let one = test_of url caller entrance in
    after_step (test keys one world)
    (start_if shelf script place keys sets caller url world call one.allowed)

-- the deck that a page is, or why it is none
abbrev pub deck_or_refusal : Shelved → Result Deck Refusal
deck_or_refusal (deck_page deck) = Ok deck
deck_or_refusal no_page = Err refusals.Missing
deck_or_refusal other = Err refusals.Refused

-- by the page that answers
abbrev pub answered
    : Site → Option Place → List Key → Pairs → Option Url → Url → World → Shelved → Once
answered site place keys sets caller url world (script_page entrance) =
    try_script site.shelf (script_of site (name_for url)) place keys sets caller url world
    (option_and_then site.call url.fragment) entrance
answered site place keys sets caller url world other =
    unless_refused place keys world (try_deck place keys sets caller url world)
    (deck_or_refusal other)

-- 6: the page is asked for
abbrev pub request
    : Site → Option Place → List Key → Pairs → Option Url → Request → World → Once
request site place keys sets caller one world =
    after_step (ask keys one world)
    (answered site place keys sets caller one.url world (answer_to site.shelf one))

-- 5: no request is made for the current deck, but for a post and for a page that is to be fetched
-- anew
abbrev pub is_here : Request → Place → Bool
is_here one place = is_same_page one.url place.url && is_none one.body && not one.fresh

-- the current deck's own URL, with the fragment of one that leads to it
abbrev pub here_with : Place → Url → Url
here_with place url = record place.url { fragment = url.fragment }

-- the current deck is entered anew where it is asked for, else the page is asked for
abbrev pub stay_or_ask
    : Site → Option Place → List Key → Pairs → Option Url → Request → World → Once
stay_or_ask site None keys sets caller one world = request site None keys sets caller one world
stay_or_ask site (Some place) keys sets caller one world =
    if is_here one place
    then arrive (Some place) keys sets (here_with place one.url) world place.deck
    else request site (Some place) keys sets caller one world

-- 3 and 4: the URL, as a reference to that of the deck, with what the postfields make of it
abbrev pub go : Site → Option Place → List Key → Option Url → Go → World → Once
go site place keys base one world = unless_refused place keys world
    (λ url. stay_or_ask site place keys one.sets base (request_of base one url) world)
    (target_of base one.href)

-- ---- open: a go of a user, from no URL; a request is always made

-- the text is a reference to the current deck's URL, or stands by itself without one
abbrev pub open_url : Site → Option Place → List Key → List ℕ → World → Once
open_url site place keys text world = unless_refused place keys world
    (λ url. request site place keys [] None (plain_get url) world)
    (target_of (deck_url place) text)

-- ---- prev

-- the old card is left, variables are set, and the earlier card is entered
abbrev pub return : Option Place → List Key → Pairs → Entry → World → Deck → Once
return place keys sets earlier world deck =
    let entry = in_deck deck earlier in
    let left = leave_and_set place sets world in
    after_step (quiet keys left)
    (enter (place_in entry deck) keys Backward (back_at left.world entry))

-- a script isn't gone back to
abbrev pub returned : Option Place → List Key → Pairs → Entry → World → Shelved → Once
returned place keys sets earlier world page =
    unless_refused place keys world (return place keys sets earlier world) (deck_or_refusal page)

-- the earlier card's deck, where it is not the current one, is asked for; access is not tested
abbrev pub ask_back : Shelf → Option Place → List Key → Pairs → Entry → World → Once
ask_back shelf place keys sets earlier world =
    let one = plain_get earlier.url in
    after_step (ask keys one world)
    (returned place keys sets earlier world (answer_to shelf one))

-- an earlier card of the current deck
abbrev pub card_here : Place → Entry → Entry
card_here place earlier = record earlier { url = place.url }

-- the current deck is kept where the earlier card is one of it
abbrev pub back_from : Shelf → Option Place → List Key → Pairs → Entry → World → Once
back_from shelf None keys sets earlier world = ask_back shelf None keys sets earlier world
back_from shelf (Some place) keys sets earlier world =
    if is_same_page earlier.url place.url
    then return (Some place) keys sets (card_here place earlier) world place.deck
    else ask_back shelf (Some place) keys sets earlier world

-- with one card or none there is no earlier one
abbrev pub back_to : Shelf → Option Place → List Key → Pairs → World → Option Entry → Once
back_to shelf place keys sets world None = refusing place keys refusals.First world
back_to shelf place keys sets world (Some earlier) =
    back_from shelf place keys sets earlier world

-- back to the card that was entered before
abbrev pub prev : Shelf → Option Place → List Key → Pairs → World → Once
prev shelf place keys sets world = back_to shelf place keys sets world (earlier_entry world)

-- ---- refresh

-- the card is left, variables are set, the timer starts, and the screen is shown; it takes no
-- turn, and without a card nothing happens
abbrev pub refresh : Option Place → Pairs → World → Scene
refresh place sets world = at_place
    (λ one w. and_then (leave_and_set place sets w) (restart_place one)) place world

-- ---- one navigation, repeated

-- from the place that is shown, by the URL that stands for the deck's where there is none
abbrev pub task_by : Site → Option Place → List Key → World → Option Url → Task → Once
task_by site place keys world from (task.Go one) = with_turn place keys world world.turns
    (go site place keys (base_url place from) one)
task_by site place keys world from (task.Prev sets) =
    with_turn place keys world world.turns (prev site.shelf place keys sets)
task_by site place keys world from (task.Refresh sets) =
    settled (quiet keys (refresh place sets world))

-- what a task comes to, where the world is
abbrev pub task_once : Site → List Key → World → Next → Once
task_once site keys world next =
    task_by site (place_now site.shelf world) keys world next.from next.task

-- a step, and then the task that is next, if there is one
abbrev pub go_on : (List Key → World → Next → Step) → Step → Option Next → Step
go_on act step None = step
go_on act step (Some next) = followed step (λ keys world. act keys world next)

-- one navigation, and then all that it leads to
abbrev pub onward : (List Key → World → Next → Step) → Once → Step
onward act once = go_on act once.step once.next

-- a task and all that it leads to; with no turn left it leads no further
abbrev pub act_in : ℕ → Site → List Key → World → Next → Step
act_in zero site keys world next = (task_once site keys world next).step
act_in (suc turns) site keys world next =
    onward (act_in turns site) (task_once site keys world next)

-- a task and all that it leads to; each that leads to another takes a turn, so these count enough
unfoldable pub act : Site → List Key → World → Next → Step
act site keys world next = act_in world.turns site keys world next

-- a URL that a user opens from the place that is shown
abbrev pub open_by : Site → Option Place → List Key → List ℕ → World → Once
open_by site place keys text world =
    with_turn place keys world world.turns (open_url site place keys text)

-- and all that it leads to
unfoldable pub visit : Site → Option Place → List Key → World → List ℕ → Step
visit site place keys world text = onward (act site) (open_by site place keys text world)
