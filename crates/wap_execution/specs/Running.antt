-- What a run of a function comes to (WAP-193, sections 9 and 10; turns and the limit of functions
-- at work are this project's own). A jump back and a call take a turn each.
use Rattle.std.specs.Prelude.{ℕ, zero, suc, ◌+◌, ◌-◌, ◌==◌, nat_le, List, [], ◌∷◌, ◌++◌}
use Rattle.std.specs.Prelude.{length, if◌then◌else◌, Option, Some, None}
use Rattle.wap_base.specs.declared.limits.TheConstants.{MOST_DEPTH}
use Rattle.wap_value.specs.declared.value.Value.{Value}
use Rattle.wap_value.specs.declared.value.Value.TheVariants.{Str}
use Rattle.wap_url.specs.declared.url.Url.{Url}
use Rattle.wap_unit.specs.declared.unit.Unit.{Unit}
use Rattle.wap_unit.specs.declared.unit.Code.{Code}
use Rattle.wap_execution.specs.declared.fatal.Fatal.TheVariants.{Budget, Depth}
use Rattle.wap_execution.specs.declared.found.Found.{Found}
use Rattle.wap_execution.specs.declared.found.Found.TheVariants.{Callee, Not}
use Rattle.wap_execution.specs.declared.library.HostOut.{HostOut}
use Rattle.wap_execution.specs.declared.library.HostOut.TheVariants as answer
use Rattle.wap_execution.specs.Frames.{FunctionOf, Function, Frame, code_at, code_of, begun, pushed}
use Rattle.wap_execution.specs.Effects.{Called, local, library, external, Effect, onward, back}
use Rattle.wap_execution.specs.Effects.{calls, returns, ends, stuck as nowhere, effect_at}
use Rattle.wap_execution.specs.Outcomes.{Outcome, value, exit, fatal, waits, stuck, Ended}
use Rattle.wap_execution.specs.Outcomes.{SettingOf, Setting}

-- a run ended so
abbrev pub ended : {S : Type 0} → Outcome → ℕ → S → Ended S
ended outcome turns state = record { outcome = outcome; turns = turns; state = state }

-- with one turn less, if there is one
abbrev pub taking_turn : {S : Type 0} → ℕ → S → (ℕ → Ended S) → Ended S
taking_turn zero state next = ended (fatal Budget) 0 state
taking_turn (suc turns) state next = next turns

-- what frames make of an outcome of what they called: they go on with a value, wait with what
-- waits, and end with what ends
abbrev pub returned_by : {S : Type 0} → List Frame → (Value → ℕ → S → Ended S) → Outcome
    → ℕ → S → Ended S
returned_by frames next (value v) turns state = next v turns state
returned_by frames next (waits dialog inner) turns state =
    ended (waits dialog (inner ++ frames)) turns state
returned_by frames next outcome turns state = ended outcome turns state

-- what frames make of what they called
abbrev pub returned : {S : Type 0} → List Frame → (Value → ℕ → S → Ended S) → Ended S → Ended S
returned frames next call = returned_by frames next call.outcome call.turns call.state

-- what a function comes to that is entered with arguments
abbrev pub EnterOf : Type 0 → Type 0 → Type 0
EnterOf U S = FunctionOf U → List Value → ℕ → S → Ended S

-- the same of a function of a unit
abbrev pub Enter : Type 0 → Type 0
Enter S = EnterOf Unit S

-- what the calls of a function come to, after their turns
abbrev pub Calls : Type 0 → Type 0
Calls S = Called → List Value → ℕ → S → Ended S

-- a frame goes on at a place with these variables and operands
abbrev pub Onward : Type 0 → Type 0
Onward S = ℕ → List Value → List Value → ℕ → S → Ended S

-- ---- calls

-- what a call of a library comes to
abbrev pub library_gave : {S : Type 0} → HostOut → ℕ → S → Ended S
library_gave (answer.Value v) turns state = ended (value v) turns state
library_gave (answer.Exit v) turns state = ended (exit v) turns state
library_gave (answer.Fatal why) turns state = ended (fatal why) turns state
library_gave (answer.Asks dialog) turns state = ended (waits dialog []) turns state

-- what a call of another script comes to, by what the host found
abbrev pub entered : {U S : Type 0} → EnterOf U S → Url → List Value → Found U → ℕ → S → Ended S
entered enter caller arguments (Callee unit base index) turns state =
    enter (record { unit = unit; base = base; referer = Some caller; index = index })
    arguments turns state
entered enter caller arguments (Not why) turns state = ended (fatal why) turns state

-- what a call comes to, after its turn: by the functions at work, and by what a function comes to
-- that is entered
abbrev pub called : {U S : Type 0} → SettingOf U S → ℕ → EnterOf U S → FunctionOf U → Calls S
called setting working enter function (local index) arguments turns state =
    if nat_le setting.limits.depth working then ended (fatal Depth) turns state
    else enter (record function { index = index }) arguments turns state
called setting working enter function (library number index) arguments turns state =
    let gave = setting.host.library state function.base function.referer number index arguments in
    library_gave gave.0 turns gave.1
called setting working enter function (external url name) arguments turns state =
    let found = setting.host.external state function.base url name (length arguments) working in
    entered enter function.base arguments found.0 turns found.1

-- ---- one frame

-- a function at work at a place
abbrev pub at_place : Function → ℕ → List Value → List Value → Frame
at_place function place variables operands =
    record { function = function; place = place; variables = variables; operands = operands }

-- what a frame's run depends on: how long Strings may be, what is done before each instruction, and
-- what calls come to
pub record Ways (S : Type 0) : Type 0 where
  pub string : ℕ
  pub tick : S → S
  pub call : Calls S

-- what an effect comes to: by how the frame goes on further on, and how it goes on back there
abbrev pub followed_by : {S : Type 0} → Calls S → Function → Onward S → Onward S → Effect → ℕ → S
    → Ended S
followed_by call function on again (onward place variables operands) turns state =
    on place variables operands turns state
followed_by call function on again (back place variables operands) turns state =
    taking_turn turns state (λ left. again place variables operands left state)
followed_by call function on again (calls callee arguments place variables operands) turns state =
    taking_turn turns state (λ left.
    returned (at_place function place variables operands ∷ [])
    (λ v. on place variables (v ∷ operands))
    (call callee arguments left state))
followed_by call function on again (returns v) turns state = ended (value v) turns state
followed_by call function on again (ends why) turns state = ended (fatal why) turns state
followed_by call function on again nowhere turns state = ended stuck turns state

-- with so many bytes of the code left, those before the place are passed over; a function that
-- comes to its end gives "". What stands at a place is read there, whether an instruction of the
-- code begins there or not: a jump into an instruction reads its bytes as others, where a machine
-- over the list of a code's instructions would be stuck. In units that were verified no jump leads
-- there, and both are the same.
unfoldable pub forward_by : {S : Type 0} → Ways S → Function → Onward S → ℕ → Onward S
forward_by ways function again zero place variables operands turns state =
    if place == length (code_of function) then ended (value (Str [])) turns state
    else ended stuck turns state
forward_by ways function again (suc left) place variables operands turns state =
    if place + suc left == length (code_of function)
    then followed_by ways.call function (forward_by ways function again left) again
    (effect_at ways.string (at_place function place variables operands)) turns (ways.tick state)
    else forward_by ways function again left place variables operands turns state

-- at most so many jumps back; no more are made than there are turns
unfoldable pub looping_by : {S : Type 0} → Ways S → Function → ℕ → Onward S
looping_by ways function zero place variables operands turns state =
    ended (fatal Budget) turns state
looping_by ways function (suc jumps) place variables operands turns state =
    forward_by ways function (looping_by ways function jumps)
    (length (code_of function)) place variables operands turns state

-- a frame goes on; with one jump more than there are turns, the turns decide
unfoldable pub goes : {S : Type 0} → Ways S → Frame → ℕ → S → Ended S
goes ways frame turns state =
    looping_by ways frame.function
    (suc turns) frame.place frame.variables frame.operands turns state

-- ---- one frame among units, with so many functions at work

-- what a frame's run depends on there
abbrev pub ways_of : {S : Type 0} → Setting S → ℕ → Enter S → Function → Ways S
ways_of setting working enter function = record {
  string = setting.limits.string;
  tick = setting.tick function;
  call = called setting working enter function;
}

-- a frame goes on there
abbrev pub run_by : {S : Type 0} → Setting S → ℕ → Enter S → Frame → ℕ → S → Ended S
run_by setting working enter frame = goes (ways_of setting working enter frame.function) frame

-- ---- all frames

-- a function that is there is entered with as many arguments as it takes, and with others it is
-- stuck
abbrev pub began : {S : Type 0} → Setting S → ℕ → Enter S → Function → Option Code → List Value
    → ℕ → S → Ended S
began setting working enter function None arguments turns state = ended stuck turns state
began setting working enter function (Some code) arguments turns state =
    if length arguments == code.args
    then run_by setting working enter (begun function code arguments) turns state
    else ended stuck turns state

-- a function is entered, and after it so many more may be; no host finds a function where none may
-- be
unfoldable pub enter : {S : Type 0} → Setting S → ℕ → Enter S
enter setting zero function arguments turns state = ended (fatal Depth) turns state
enter setting (suc more) function arguments turns state =
    began setting (MOST_DEPTH - more) (enter setting more) function
    (code_at function) arguments turns state

-- the innermost frame goes on above so many others
abbrev pub run : {S : Type 0} → Setting S → Frame → List Frame → ℕ → S → Ended S
run setting frame outer =
    run_by setting (length (frame ∷ outer))
    (enter setting (MOST_DEPTH - length (frame ∷ outer))) frame

-- the innermost frame goes on with the value that its call gave, the next with the value that this
-- one gives, and so on
unfoldable pub resumed : {S : Type 0} → Setting S → List Frame → Value → ℕ → S → Ended S
resumed setting [] v turns state = ended (value v) turns state
resumed setting (frame ∷ outer) v turns state =
    returned outer (resumed setting outer) (run setting (pushed v frame) outer turns state)

-- the innermost frame goes on, and then the others
unfoldable pub finished : {S : Type 0} → Setting S → List Frame → ℕ → S → Ended S
finished setting [] turns state = ended stuck turns state
finished setting (frame ∷ outer) turns state =
    returned outer (resumed setting outer) (run setting frame outer turns state)
