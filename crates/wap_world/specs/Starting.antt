-- Scripts that a go or an open starts, and what follows their end (WAP-193, sections 8.3, 8.5 and
-- 12; the pending navigation WAP-194, "WMLBrowser Library"). The words of refusals are this
-- project's own.
use Rattle.std.specs.Prelude.{ℕ, Bool, true, false, ◌==◌, nat_lt, if◌then◌else◌, List, [], ◌∷◌}
use Rattle.std.specs.Prelude.{◌++◌, length, encode_utf8_all, Option, Some, None, Result, Ok, Err}
use Rattle.std.specs.Prelude.{codes}
use Rattle.std.specs.List.{list_any}
use Rattle.wap_base.specs.declared.key.Key.{Key}
use Rattle.wap_url.specs.declared.url.Url.{Url}
use Rattle.wap_url.specs.Printing.{without_fragment}
use Rattle.wap_value.specs.declared.value.Value.{Value}
use Rattle.wap_value.specs.declared.value.Value.TheVariants.{Str}
use Rattle.wap_execution.specs.declared.fatal.Fatal.{Fatal}
use Rattle.wap_execution.specs.declared.fatal.Fatal.TheVariants as fatal
use Rattle.wap_cardrules.specs.declared.task.Task.{Task}
use Rattle.wap_cardrules.specs.declared.event.Event.TheVariants as event
use Rattle.wap_cardrules.specs.Values.{Pairs}
use Rattle.wap_world.specs.declared.timer.Timer.{Timer}
use Rattle.wap_world.specs.declared.timer.Timer.TheVariants.{Off, Expired}
use Rattle.wap_world.specs.Shelves.{Shelf}
use Rattle.wap_world.specs.World.{World, Place, place_now}
use Rattle.wap_world.specs.Steps.{Step, Once, behind, quiet, settled, after_step}
use Rattle.wap_world.specs.Setting.{set_variables}
use Rattle.wap_world.specs.Timers.{settled_timer}
use Rattle.wap_world.specs.Screens.{show}
use Rattle.wap_world.specs.Entering.{begin_event}
use Rattle.wap_world.specs.Sites.{External, Call, End, done, failed, unanswered, Ran, Script}

-- ---- the line of a script that doesn't run, or ends abnormally

-- the word of what ended a script
abbrev pub word_of_fatal : Fatal → List ℕ
word_of_fatal fatal.Budget = codes "budget"
word_of_fatal fatal.Depth = codes "depth"
word_of_fatal fatal.NoUnit = codes "missing"
word_of_fatal fatal.UnitRefused = codes "refused"
word_of_fatal fatal.NoFunction = codes "function"
word_of_fatal fatal.Arguments = codes "arguments"
word_of_fatal fatal.Denied = codes "denied"
word_of_fatal (fatal.Aborted text) = codes "aborted " ++ text
word_of_fatal fatal.TooLong = codes "long"
word_of_fatal fatal.Stopped = codes "stopped"

-- its line
abbrev pub script_line : Fatal → List ℕ
script_line why = codes "! script " ++ word_of_fatal why

-- a script isn't started: the current card is shown again
abbrev pub not_started : Option Place → List Key → Fatal → World → Once
not_started place keys why world =
    settled (quiet keys (behind (script_line why ∷ []) (show place world)))

-- ---- the end of a script

-- the same step in another world
abbrev pub in_world : World → Step → Step
in_world world step = record step { world = world }

-- no navigation is done: where the timer ran out meanwhile, its task is next, else the card is
-- shown
abbrev pub rest : Option Place → List Key → Timer → World → Once
rest place keys Expired world =
    begin_event place keys event.Timer (record world { timer = Off })
rest place keys other world = settled (quiet keys (show place world))

-- what the script asked for is next, from its own URL where there is no card, and a timer that ran
-- out is off; where it asked for nothing, as above
abbrev pub end_done : Option Place → Url → Option Task → Step → Once
end_done place base None step =
    after_step step (rest place step.keys step.world.timer step.world)
end_done place base (Some task) step = record {
  step = in_world (record step.world {
    pending = None;
    timer = settled_timer step.world.timer;
  }) step;
  next = Some (record { task = task; from = Some base });
}

-- it ended abnormally: what it asked for is dropped, and variables stay
abbrev pub end_failed : Option Place → Fatal → Step → Once
end_failed place why step =
    let world = record step.world { pending = None } in
    after_step
    (record step { world = world; lines = step.lines ++ script_line why ∷ [] })
    (rest place step.keys world.timer world)

-- by how it ended; where a dialog stays open the step says so
abbrev pub end_by : Option Place → Url → End → Step → Once
end_by place base done step = end_done place base step.world.pending step
end_by place base (failed why) step = end_failed place why step
end_by place base unanswered step = settled (record step { is_open = true })

-- the turns that are left are the world's again, whose card is the current one
abbrev pub ended_script : Shelf → Url → Ran → Once
ended_script shelf base ran =
    let world = record ran.step.world { turns = ran.turns } in
    end_by (place_now shelf world) base ran.end (in_world world ran.step)

-- ---- the start

-- nothing is asked for yet, and turns are counted apart
abbrev pub prepared : World → World
prepared world = record world { pending = None; turns = 0 }

-- a String of a literal past the limit
abbrev pub is_too_long : ℕ → Value → Bool
is_too_long string (Str text) = nat_lt string (length (encode_utf8_all text))
is_too_long string other = false

-- a function by its index, with arguments; or why none is started
abbrev pub Start : Type 0
Start = Result (ℕ × List Value) Fatal

-- a function that is not external, another count of arguments, and a String that is too long are
-- refused in this order
abbrev pub start_of : ℕ → List Value → Option External → Start
start_of string arguments None = Err fatal.NoFunction
start_of string arguments (Some one) =
    if one.arguments == length arguments
    then (if list_any (is_too_long string) arguments then Err fatal.TooLong
    else Ok (one.index, arguments))
    else Err fatal.Arguments

-- by these external functions; a fragment that is no call names no function
abbrev pub start_by : (List ℕ → Option External) → ℕ → Option Call → Start
start_by external string None = Err fatal.NoFunction
start_by external string (Some call) = start_of string call.arguments (external call.function)

-- the task's variables are set just before
abbrev pub external_started : Shelf → Script → List Key → Pairs → Option Url → Url → World → ℕ
    → List Value → Once
external_started shelf script keys sets caller url world index arguments =
    let base = without_fragment url in
    let set = set_variables sets world in
    ended_script shelf base (script.run base caller index arguments set.world.turns
    (quiet keys (record set { world = prepared set.world })))

-- what is started, or the line of why nothing is
abbrev pub started : Shelf → Script → Option Place → List Key → Pairs → Option Url → Url → World
    → Start → Once
started shelf script place keys sets caller url world (Err why) = not_started place keys why world
started shelf script place keys sets caller url world (Ok one) =
    external_started shelf script keys sets caller url world one.0 one.1

-- by the call in the fragment of the URL, once the access decision is made
abbrev pub start_if : Shelf → Script → Option Place → List Key → Pairs → Option Url → Url → World
    → Option Call → Bool → Once
start_if shelf script place keys sets caller url world call true =
    started shelf script place keys sets caller url world
    (start_by script.external world.limits.string call)
start_if shelf script place keys sets caller url world call false =
    not_started place keys fatal.Denied world
