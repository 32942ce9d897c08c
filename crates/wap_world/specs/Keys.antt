-- Keys: what each comes to outside a dialog (WAP-191, sections 9.7 to 9.9, 11.6 and 11.7). That
-- the keys are these is this project's own.
use Rattle.std.specs.Prelude.{ℕ, ◌-◌, nat_lt, if◌then◌else◌, List, [], ◌∷◌, map, Option, Some, None}
use Rattle.std.specs.List.{flat_map}
use Rattle.wap_base.specs.declared.key.Key.{Key}
use Rattle.wap_base.specs.declared.key.Key.TheVariants as key
use Rattle.wap_cardrules.specs.declared.answers.Entered.{Entered}
use Rattle.wap_cardrules.specs.declared.answers.Entered.TheVariants as entered
use Rattle.wap_cardrules.specs.declared.answers.Chosen.{Chosen}
use Rattle.wap_cardrules.specs.declared.answers.Chosen.TheVariants as chosen
use Rattle.wap_cardrules.specs.declared.event.Event.TheVariants as event
use Rattle.wap_cardrules.specs.declared.task.Task.{Task}
use Rattle.wap_cardrules.specs.declared.task.Task.TheVariants.{Prev}
use Rattle.wap_cardrules.specs.Dos.{do_task}
use Rattle.wap_cardrules.specs.Fields.{link_task}
use Rattle.wap_cardrules.specs.Entering.{enter_text, choose}
use Rattle.wap_world.specs.declared.refusal.Refusal.TheVariants as refusals
use Rattle.wap_world.specs.declared.timer.Timer.{Timer}
use Rattle.wap_world.specs.declared.timer.Timer.TheVariants.{Running}
use Rattle.wap_world.specs.Sites.{Site}
use Rattle.wap_world.specs.World.{World, Place, place_now}
use Rattle.wap_world.specs.Lines.{refusal_line, variable_line}
use Rattle.wap_world.specs.Steps.{Scene, Step, then_task, still, behind, quiet, followed}
use Rattle.wap_world.specs.Setting.{fault_lines}
use Rattle.wap_world.specs.Timers.{end_timer}
use Rattle.wap_world.specs.Screens.{show, show_screen, refuse}
use Rattle.wap_world.specs.Entering.{event_task}
use Rattle.wap_world.specs.Tasks.{act, visit}

-- a key that fits nothing changes nothing else
abbrev pub ignored : World → Scene
ignored world = record { world = world; lines = refusal_line refusals.Ignored ∷ [] }

-- a task, or what happens without one
abbrev pub act_or : Scene → Site → List Key → World → Option Task → Step
act_or otherwise site keys world None = quiet keys otherwise
act_or otherwise site keys world (Some task) = act site keys world (then_task task)

-- ---- fields

-- a text that a field takes is set and shown; one that it doesn't take leaves the screen as it was
abbrev pub after_text : Option Place → World → Entered → Scene
after_text place world entered.NoInput = ignored world
after_text place world entered.Refused =
    behind (refusal_line refusals.Mask ∷ []) (show_screen place world)
after_text place world entered.Full = refuse place refusals.Full world
after_text place world entered.Set = show place world

-- a text is entered into the field of a number
abbrev pub type_text : ℕ → List ℕ → Place → World → Scene
type_text n text place world =
    let typed = enter_text world.vars place.card n text in
    after_text (Some place) (record world { vars = typed.vars }) typed.answer

-- the sets that were refused, and then the task of onpick, or show
abbrev pub after_choice : Site → List Key → Option Place → World → Chosen → Step
after_choice site keys place world chosen.NoOption = quiet keys (ignored world)
after_choice site keys place world (chosen.Set refused task) = followed
    (quiet keys (record { world = world; lines = flat_map fault_lines refused }))
    (λ left w. act_or (show place w) site left w task)

-- an option is chosen in the field of a number
abbrev pub choose_option : Site → List Key → ℕ → ℕ → Place → World → Step
choose_option site keys n m place world =
    let made = choose world.vars place.card n m in
    after_choice site keys (Some place) (record world { vars = made.vars }) made.answer

-- ---- the timer

-- the timer has run out: its variable is 0, and its task runs
abbrev pub expire : Site → List Key → Place → World → Step
expire site keys place world = followed (quiet keys (end_timer place.card world))
    (λ left w. act_or (still w) site left w (event_task (Some place) event.Timer w))

-- some time passes: less than remains, or all
abbrev pub pass_time : Site → List Key → ℕ → Timer → Place → World → Step
pass_time site keys n (Running time) place world =
    if nat_lt n time then quiet keys (still (record world { timer = Running (time - n) }))
    else expire site keys place world
pass_time site keys n other place world = quiet keys (ignored world)

-- ---- each key

-- a rule for the current card; without one a key fits nothing
abbrev pub at_card : List Key → World → (Place → Step) → Option Place → Step
at_card keys world rule None = quiet keys (ignored world)
at_card keys world rule (Some place) = rule place

-- each key has its turns
abbrev pub renewed : World → World
renewed world = record world { turns = world.budget }

-- what each key does at a place; those of dialogs fit nothing outside one, and those of an inbox
-- nothing without one
abbrev pub apply : Site → Option Place → List Key → World → Key → Step
apply site place keys world (key.Open url) = visit site place keys world url
apply site place keys world (key.Do name) = at_card keys world
    (λ one. act_or (ignored world) site keys world (do_task world.vars one.deck one.card name))
    place
apply site place keys world (key.Pick n) = at_card keys world
    (λ one. act_or (ignored world) site keys world (link_task world.vars one.card n)) place
apply site place keys world (key.Enter n text) = at_card keys world
    (λ one. quiet keys (type_text n text one world)) place
apply site place keys world (key.Choose n m) = at_card keys world
    (λ one. choose_option site keys n m one world) place
apply site place keys world key.Back = at_card keys world
    (λ one. act site keys world (then_task (Prev []))) place
apply site place keys world (key.Tick n) = at_card keys world
    (λ one. pass_time site keys n world.timer one world) place
apply site place keys world key.Vars =
    quiet keys (record { world = world; lines = map variable_line world.vars })
apply site place keys world other = quiet keys (ignored world)

-- a key where the world is, before keys that are left
unfoldable pub react : Site → Key → List Key → World → Step
react site one keys world = apply site (place_now site.shelf world) keys (renewed world) one
