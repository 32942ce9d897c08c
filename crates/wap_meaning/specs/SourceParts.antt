-- What a part of a source does: it gives something and the function goes on, with the variables,
-- the turns and the host's state that are left then, or the script is over. This project's own.
use Rattle.std.specs.Prelude.{ℕ, zero, suc, nat_lt, List, [], slice_get, slice_set, length}
use Rattle.std.specs.Prelude.{if◌then◌else◌, Option, Some, None, Result, Ok, Err}
use Rattle.wap_value.specs.declared.value.Value.{Value}
use Rattle.wap_value.specs.declared.fault.ValueFault.{ValueFault}
use Rattle.wap_value.specs.TooLong.{kept_within}
use Rattle.wap_execution.specs.declared.fatal.Fatal.TheVariants.{Budget, TooLong}
use Rattle.wap_execution.specs.Effects.{Called}
use Rattle.wap_execution.specs.Outcomes.{Outcome, value, fatal, waits, stuck, Ended}
use Rattle.wap_execution.specs.Running.{ended, Calls}

-- what a part comes to: it gives something and leaves variables, turns and a state, or the script
-- is over, or waits
pub data Came (A S : Type 0) : Type 0 where
  gave : A → List Value → ℕ → S → Came A S
  over : Ended S → Came A S

-- what a part comes to by the function's variables, the turns and the host's state
abbrev pub Does : Type 0 → Type 0 → Type 0
Does A S = List Value → ℕ → S → Came A S

-- ---- one part after the other

-- what follows a part that gave something
abbrev pub from : {A B S : Type 0} → Came A S → (A → Does B S) → Came B S
from (gave a variables turns state) next = next a variables turns state
from (over end) next = over end

-- one part, and the next by what the first gives
infixl 10 ◌>>=◌
abbrev pub ◌>>=◌ : {A B S : Type 0} → Does A S → (A → Does B S) → Does B S
(does >>= next) variables turns state = from (does variables turns state) next

-- something is given, and nothing is changed
abbrev pub give : {A S : Type 0} → A → Does A S
give a variables turns state = gave a variables turns state

-- the script is over
abbrev pub ends_with : {A S : Type 0} → Outcome → Does A S
ends_with outcome variables turns state = over (ended outcome turns state)

-- one turn is taken, if there is one
abbrev pub turn : {S : Type 0} → Does (Unit {0}) S
turn variables zero state = over (ended (fatal Budget) 0 state)
turn variables (suc turns) state = gave tt variables turns state

-- what a function comes to by its last part: what that gave decides how the function ends
abbrev pub done : {A S : Type 0} → Came A S → (A → List Value → ℕ → S → Ended S) → Ended S
done (gave a variables turns state) next = next a variables turns state
done (over end) next = end

-- ---- variables, by their places (WAP-193, sections 6.2.3 and 6.3.1)

-- a value that has to be there
abbrev pub given : {S : Type 0} → Option Value → Does Value S
given None = ends_with stuck
given (Some v) = give v

-- the value of a variable
abbrev pub load : {S : Type 0} → ℕ → Does Value S
load index variables turns state = given (slice_get variables index) variables turns state

-- a variable gets a value
abbrev pub store : {S : Type 0} → ℕ → Value → Does (Unit {0}) S
store index v variables turns state =
    if nat_lt index (length variables)
    then gave tt (slice_set variables index v) turns state
    else over (ended stuck turns state)

-- ---- Strings that must not be too long

-- a value that was measured
abbrev pub kept_by : {S : Type 0} → Result Value ValueFault → Does Value S
kept_by (Err fault) = ends_with (fatal TooLong)
kept_by (Ok v) = give v

-- a value, unless it is a String past the limit
abbrev pub kept : {S : Type 0} → ℕ → Value → Does Value S
kept string v = kept_by (kept_within string v)

-- ---- calls (WAP-193, section 6.4.2)

-- what a call's outcome is to the part that called: a value goes on, and with all else the script
-- is over, or waits; which frames wait is forgotten, since a source has none
abbrev pub came_by : {S : Type 0} → Outcome → Does Value S
came_by (value v) variables turns state = gave v variables turns state
came_by (waits dialog frames) variables turns state = over (ended (waits dialog []) turns state)
came_by outcome variables turns state = over (ended outcome turns state)

-- what a call is to it
abbrev pub came : {S : Type 0} → Ended S → List Value → Came Value S
came end variables = came_by end.outcome variables end.turns end.state

-- what is called is entered with these arguments
abbrev pub called_with : {S : Type 0} → Calls S → Called → List Value → Does Value S
called_with call callee arguments variables turns state =
    came (call callee arguments turns state) variables

-- a call takes its turn after its arguments
abbrev pub calling : {S : Type 0} → Calls S → Called → List Value → Does Value S
calling call callee arguments = turn >>= λ _. called_with call callee arguments
