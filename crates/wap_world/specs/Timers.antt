-- The timer of the current card (WAP-191, section 11.7).
use Rattle.std.specs.Prelude.{ℕ, suc, List, [], ◌∷◌, Option, Some, None}
use Rattle.std.specs.Fmt.{decimal}
use Rattle.std.specs.Option.{option_and_then}
use Rattle.wap_tokens.specs.declared.markup.deck.Node.{Node}
use Rattle.wap_cardrules.specs.Timers.{timer_in, timer_variable, timer_of}
use Rattle.wap_world.specs.declared.timer.Timer.{Timer}
use Rattle.wap_world.specs.declared.timer.Timer.TheVariants.{NotStarted, Running, Off}
use Rattle.wap_world.specs.World.{World}
use Rattle.wap_world.specs.Steps.{Scene, still}
use Rattle.wap_world.specs.Setting.{set_variables}

-- ---- starting

-- 0 is no time
abbrev pub timer_from : Option (Option (List ℕ) × ℕ) → Timer
timer_from (Some (name, suc time)) = Running (suc time)
timer_from other = Off

-- the timer starts, whatever its state
abbrev pub start_timer : Node → World → World
start_timer card world = record world { timer = timer_from (timer_of world.vars card) }

-- the timer starts, unless it has since the card was entered
abbrev pub timer_started : Timer → Node → World → World
timer_started NotStarted card world = start_timer card world
timer_started other card world = world

-- ---- the variable

-- a time is set as decimal text, where there is a name
abbrev pub store_under : Option (List ℕ) → ℕ → World → Scene
store_under None time world = still world
store_under (Some name) time world = set_variables ((name, decimal time) ∷ []) world

-- a timer with a name stores a time
abbrev pub store_time : Node → ℕ → World → Scene
store_time card time world = store_under (option_and_then timer_variable (timer_in card)) time world

-- ---- leaving

-- what remains of a timer that runs
abbrev pub store_left : Timer → Node → World → Scene
store_left (Running time) card world = store_time card time world
store_left other card world = still world

-- ---- the end

-- the timer has run out
abbrev pub end_timer : Node → World → Scene
end_timer card world = store_time card 0 (record world { timer = Off })

-- ---- while a script waits

-- a timer that ran out meanwhile is off before the script's navigation is tried
abbrev pub settled_timer : Timer → Timer
settled_timer NotStarted = NotStarted
settled_timer (Running time) = Running time
settled_timer other = Off
