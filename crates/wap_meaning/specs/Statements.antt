-- What statements mean (WAP-193, section 6.5), one line a construct: where they leave to, and the
-- variables, the turns and the host's state that they leave.
use Rattle.std.specs.Prelude.{ℕ, zero, suc, true, List, [], ◌∷◌, map, if◌then◌else◌}
use Rattle.std.specs.Prelude.{Option, Some, None}
use Rattle.wap_value.specs.declared.value.Value.{Value}
use Rattle.wap_value.specs.declared.value.Value.TheVariants.{Bool as Boolean, Str}
use Rattle.wap_grammar.specs.declared.program.program.Id.{Id}
use Rattle.wap_grammar.specs.declared.program.expression.Expr.{Expr}
use Rattle.wap_grammar.specs.declared.program.statement.Stmt.{Stmt}
use Rattle.wap_grammar.specs.declared.program.statement.Stmt.TheOpen.{Stmt-F}
use Rattle.wap_grammar.specs.declared.program.statement.Stmt.TheFolds.{fold-Stmt}
use Rattle.wap_execution.specs.declared.fatal.Fatal.TheVariants.{Budget}
use Rattle.wap_execution.specs.Effects.{jumps_at}
use Rattle.wap_execution.specs.Outcomes.{fatal}
use Rattle.wap_meaning.specs.Names.{variable_at}
use Rattle.wap_meaning.specs.SourceParts.{Does, ◌>>=◌, give, ends_with, turn, store}
use Rattle.wap_meaning.specs.Expressions.{Around, eval}

-- where a statement leaves to
pub data Ending : Type 0 where
  -- the next statement
  goes_on : Ending
  -- behind the loop around it
  breaks : Ending
  -- the next turn of the loop around it
  continues : Ending
  -- out of the function, with a value
  returns : Value → Ending

-- ---- statements in order (sections 6.5.3 and 6.5.4)

-- what follows a statement is done where that goes on
abbrev pub if_goes_on : {S : Type 0} → Does Ending S → Ending → Does Ending S
if_goes_on next goes_on = next
if_goes_on next ending = give ending

-- one statement, and the next
abbrev pub and_then : {S : Type 0} → Does Ending S → Does Ending S → Does Ending S
and_then does next = does >>= if_goes_on next

-- one after the other
abbrev pub in_order : {S : Type 0} → List (Does Ending S) → Does Ending S
in_order [] = give goes_on
in_order (does ∷ more) = and_then does (in_order more)

-- the value of an expression statement is dropped (section 6.5.2)
abbrev pub dropped : {S : Type 0} → Does Value S → Does Ending S
dropped does = does >>= λ v. give goes_on

-- a variable is declared: it gets the value of its initialiser, or `""` without one, each time that
-- the statement is executed
abbrev pub declared : {S : Type 0} → Around S → Id × Option Expr → Does Ending S
declared around (v, None) = store (variable_at around.names v) (Str []) >>= λ _. give goes_on
declared around (v, Some e) =
    eval around e >>= λ given. store (variable_at around.names v) given >>= λ _. give goes_on

-- ---- conditions (section 6.5.5)

-- what is done where a condition doesn't hold
abbrev pub otherwise : {S : Type 0} → Option (Does Ending S) → Does Ending S
otherwise None = give goes_on
otherwise (Some s) = s

-- ---- loops (sections 6.5.6 to 6.5.9)

-- what follows the body of a loop, by where the body leaves to: `continue` goes to the next turn,
-- and `break` behind the loop
abbrev pub if_continues : {S : Type 0} → Does Ending S → Ending → Does Ending S
if_continues next breaks = give goes_on
if_continues next (returns v) = give (returns v)
if_continues next _ = next

-- a loop with so many turns at most: a turn is taken after the body and the update, before the
-- condition is tried again
abbrev pub looped : {S : Type 0} → Does Value S → Does Ending S → Does (Unit {0}) S → ℕ
    → Does Ending S
looped test body update zero = ends_with (fatal Budget)
looped test body update (suc more) =
    test >>= λ v. if jumps_at v then give goes_on
    else body >>= if_continues (update >>= λ _. turn >>= λ _. looped test body update more)

-- a loop; with one repetition more than there are turns, the turns decide
abbrev pub loop : {S : Type 0} → Does Value S → Does Ending S → Does (Unit {0}) S → Does Ending S
loop test body update variables turns state =
    looped test body update (suc turns) variables turns state

-- the condition of a `for`, which holds where there is none
abbrev pub test_of : {S : Type 0} → Around S → Option Expr → Does Value S
test_of around None = give (Boolean true)
test_of around (Some e) = eval around e

-- its update, whose value is dropped
abbrev pub update_of : {S : Type 0} → Around S → Option Expr → Does (Unit {0}) S
update_of around None = give tt
update_of around (Some e) = eval around e >>= λ v. give tt

-- ---- statements

-- what a statement means, by what its parts mean
abbrev pub run_by_part : {S : Type 0} → Around S → Stmt-F (Does Ending S) → Does Ending S
-- section 6.5.1
run_by_part around Stmt-F.Empty = give goes_on
-- section 6.5.2
run_by_part around (Stmt-F.Expr e) = dropped (eval around e)
-- section 6.5.3
run_by_part around (Stmt-F.Block ss) = in_order ss
-- section 6.5.4
run_by_part around (Stmt-F.Vars pairs) = in_order (map (declared around) pairs)
-- section 6.5.5; a condition that is invalid counts as false, here and in loops
run_by_part around (Stmt-F.If c s other) =
    eval around c >>= λ v. if jumps_at v then otherwise other else s
-- section 6.5.6
run_by_part around (Stmt-F.While c s) = loop (eval around c) s (give tt)
-- section 6.5.7
run_by_part around (Stmt-F.For first c update s) =
    and_then first (loop (test_of around c) s (update_of around update))
-- section 6.5.8
run_by_part around (Stmt-F.Break word) = give breaks
-- section 6.5.9
run_by_part around (Stmt-F.Continue word) = give continues
-- section 6.5.10; without an expression `""` is returned
run_by_part around (Stmt-F.Return None) = give (returns (Str []))
run_by_part around (Stmt-F.Return (Some e)) = eval around e >>= λ v. give (returns v)

-- what a statement means
unfoldable pub run : {S : Type 0} → Around S → Stmt → Does Ending S
run {S} around = fold-Stmt (Does Ending S) (run_by_part around)
