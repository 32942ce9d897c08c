-- The screen of a card (WAP-191, section 11.5), and when it is shown. Its form is this project's
-- own.
use Rattle.std.specs.Prelude.{ℕ, List, [], ◌∷◌, ◌++◌, map, Option, Some, None}
use Rattle.wap_vars.specs.Variables.{Variables}
use Rattle.wap_layout.specs.Calculation.{lines_of}
use Rattle.wap_tokens.specs.declared.markup.deck.Deck.{Deck}
use Rattle.wap_tokens.specs.declared.markup.deck.Node.{Node}
use Rattle.wap_cardrules.specs.Setting.{defaults}
use Rattle.wap_cardrules.specs.Dos.{do_labels}
use Rattle.wap_cardrules.specs.Flow.{flow_of, title_of}
use Rattle.wap_world.specs.declared.refusal.Refusal.{Refusal}
use Rattle.wap_world.specs.declared.screen.TheConstants.{COLUMNS}
use Rattle.wap_world.specs.World.{World, Place}
use Rattle.wap_world.specs.Lines.{title_line, do_line, refusal_line}
use Rattle.wap_world.specs.Steps.{Scene, still, behind, and_then}
use Rattle.wap_world.specs.Setting.{with_set}
use Rattle.wap_world.specs.Timers.{timer_started, start_timer}

-- its title, its content and its active dos
abbrev pub screen : Variables → Deck → Node → List (List ℕ)
screen vars deck card =
    title_line (title_of vars card)
    ∷ lines_of COLUMNS (flow_of vars card)
    ++ map do_line (do_labels vars deck card)

-- a rule for the current card; without one nothing happens
abbrev pub at_place : (Place → World → Scene) → Option Place → World → Scene
at_place rule None world = still world
at_place rule (Some place) world = rule place world

-- ---- the screen is shown

-- the screen is drawn, and nothing is changed
abbrev pub screen_lines : Place → World → Scene
screen_lines place world =
    record { world = world; lines = screen world.vars place.deck place.card }

-- the screen alone
abbrev pub show_screen : Option Place → World → Scene
show_screen place world = at_place screen_lines place world

-- ---- show

-- the fields get their defaults
abbrev pub apply_defaults : Place → World → Scene
apply_defaults place world = with_set world (defaults world.vars place.card)

-- its fields get their defaults, its timer starts unless it has, and its screen is drawn
abbrev pub show_place : Place → World → Scene
show_place place world =
    and_then (apply_defaults place world)
    (λ w. screen_lines place (timer_started w.timer place.card w))

-- its timer starts anew, and its screen is drawn
abbrev pub restart_place : Place → World → Scene
restart_place place world = screen_lines place (start_timer place.card world)

-- defaults, timer and screen
abbrev pub show : Option Place → World → Scene
show place world = at_place show_place place world

-- a refusal that ends a navigation is followed by show
abbrev pub refuse : Option Place → Refusal → World → Scene
refuse place refusal world = behind (refusal_line refusal ∷ []) (show place world)
