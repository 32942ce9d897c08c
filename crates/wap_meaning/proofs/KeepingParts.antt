-- Steps of which parts are made keep turns and variables.
use Rattle.std.proofs.Common.{ℕ, zero, suc, ◌≤◌, Bool, true, false, ltb, cond, List, length, Option}
use Rattle.std.proofs.Common.{Some, None, Result, Ok, Err, refl, arith, slice_get, slice_set}
use Rattle.std.proofs.Common.{length-set}
use Rattle.std.specs.Prelude.{if◌then◌else◌}
use Rattle.wap_value.specs.declared.value.Value.{Value}
use Rattle.wap_value.specs.declared.value.Value.TheVariants.{Bool as Boolean, Invalid}
use Rattle.wap_value.specs.declared.fault.ValueFault.{ValueFault}
use Rattle.wap_value.specs.TooLong.{kept_within}
use Rattle.wap_execution.specs.Effects.{Called}
use Rattle.wap_execution.specs.Outcomes.{Outcome, value, stuck}
use Rattle.wap_execution.specs.Running.{ended, Calls}
use Rattle.wap_meaning.specs.SourceParts.{Does, gave, over, give, given, load, store, kept, kept_by}
use Rattle.wap_meaning.specs.SourceParts.{turn, calling, called_with, came_by}
use Rattle.wap_meaning.specs.Expressions.{decides}
use Rattle.wap_meaning.specs.Keeping.{GiveNoTurns, Lessens, Keeps}
use Rattle.wap_meaning.proofs.Following.{keeps_both}

-- what is given changes nothing
pub give_keeps : {A S : Type 0} (a : A) → Keeps {A = A} {S = S} (give a)
give_keeps a variables turns state = omega arith

-- nor does a value that has to be there
pub given_keeps : {S : Type 0} (o : Option Value) → Keeps {S = S} (given o)
given_keeps None variables turns state = omega arith
given_keeps (Some v) variables turns state = omega arith

-- a variable is read
pub load_keeps : {S : Type 0} (index : ℕ) → Keeps {S = S} (load index)
load_keeps index variables turns state =
    given_keeps (slice_get variables index) variables turns state

-- a variable is written, and there are as many
pub store_keeps : {S : Type 0} (index : ℕ) (v : Value) → Keeps {S = S} (store index v)
store_keeps index v variables turns state = by (ltb index (length variables))
  where
    by : (within : Bool) → Lessens {A = Unit {0}} variables turns
        (cond within (gave (tt {0}) (slice_set variables index v) turns state)
        (over (ended stuck turns state)))
    by true = omega (arith, length-set variables index v)
    by false = omega arith

-- a value that was measured
kept_by_keeps : {S : Type 0} (k : Result Value ValueFault) → Keeps {S = S} (kept_by k)
kept_by_keeps (Ok v) variables turns state = omega arith
kept_by_keeps (Err fault) variables turns state = omega arith

-- a value that must not be too long
pub kept_keeps : {S : Type 0} (string : ℕ) (v : Value) → Keeps {S = S} (kept string v)
kept_keeps string v = kept_by_keeps (kept_within string v)

-- a turn is taken, and none is given
pub turn_keeps : {S : Type 0} → Keeps {S = S} turn
turn_keeps variables zero state = omega arith
turn_keeps variables (suc turns) state = omega arith

-- what a call comes to leaves as few turns as the call
came_keeps : {S : Type 0} (outcome : Outcome) (variables : List Value) (left turns : ℕ) (state : S)
    → left ≤ turns → Lessens variables turns (came_by outcome variables left state)
came_keeps (value v) variables left turns state less = (less, refl)
came_keeps _ variables left turns state less = less

-- a call gives no turns back
pub calling_keeps : {S : Type 0} (call : Calls S) → GiveNoTurns call → (callee : Called)
    (arguments : List Value) → Keeps (calling call callee arguments)
calling_keeps call falls callee arguments =
    keeps_both turn (λ _. called_with call callee arguments) turn_keeps
    (λ _ variables turns state.
    let end = call callee arguments turns state in
    came_keeps end.outcome variables end.turns turns end.state
    (falls callee arguments turns state))

-- one of two parts
pub if_keeps : {A S : Type 0} (test : Bool) (one other : Does A S) → Keeps one → Keeps other
    → Keeps (if test then one else other)
if_keeps true one other ones others = ones
if_keeps false one other ones others = others

-- a short-circuit, by what its first operand is as Boolean
pub decides_keeps : {S : Type 0} (by : Bool) (truth : Option Bool) (does : Does Value S)
    → Keeps does → Keeps (decides by truth does)
decides_keeps by None does falls = give_keeps Invalid
decides_keeps true (Some true) does falls = give_keeps (Boolean true)
decides_keeps true (Some false) does falls = falls
decides_keeps false (Some true) does falls = falls
decides_keeps false (Some false) does falls = give_keeps (Boolean false)
