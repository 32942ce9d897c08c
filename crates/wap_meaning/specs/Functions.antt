-- What functions of sources mean (WAP-193, section 6.4), and what functions of units come to beside
-- them: both by what their calls come to, so that sources and units may call each other.
use Rattle.std.specs.Prelude.{◌≡◌, ℕ, suc, ◌-◌, ◌==◌, List, [], ◌++◌, map, replicate, length}
use Rattle.std.specs.Prelude.{slice_get, if◌then◌else◌, Option, Some, None}
use Rattle.wap_base.specs.declared.limits.Limits.{Limits}
use Rattle.wap_base.specs.declared.limits.TheConstants.{MOST_DEPTH}
use Rattle.wap_value.specs.declared.value.Value.{Value}
use Rattle.wap_value.specs.declared.value.Value.TheVariants.{Str}
use Rattle.wap_unit.specs.declared.unit.Code.{Code}
use Rattle.wap_grammar.specs.declared.program.statement.Stmt.{Stmt}
use Rattle.wap_grammar.specs.declared.program.program.Function.{Function as SourceFunction}
use Rattle.wap_grammar.specs.declared.program.program.Program.{Program}
use Rattle.wap_execution.specs.Frames.{Function, code_at, begun}
use Rattle.wap_execution.specs.Outcomes.{value, stuck, Ended, Hosting}
use Rattle.wap_execution.specs.Running.{ended, Calls, Ways, called, goes, enter}
use Rattle.wap_execution.specs.laws.Settings.{uncounted}
use Rattle.wap_execution.specs.laws.Forgetting.{forgotten}
use Rattle.wap_meaning.specs.Names.{locals, names_in}
use Rattle.wap_meaning.specs.SourceParts.{done}
use Rattle.wap_meaning.specs.Expressions.{Around}
use Rattle.wap_meaning.specs.Statements.{Ending, returns, in_order, run}

-- ---- functions of sources

-- what a function gives, by where its statements leave to: `""` where it ends without a return
-- (section 6.4.3)
abbrev pub result_of : Ending → Value
result_of (returns v) = v
result_of _ = Str []

-- the statements of a function, from its first variables
abbrev pub run_body : {S : Type 0} → Around S → List Stmt → List Value → ℕ → S → Ended S
run_body around body variables turns state =
    done (in_order (map (run around) body) variables turns state)
    (λ ending variables turns state. ended (value (result_of ending)) turns state)

-- a function's first variables: its arguments, and `""` in all others (section 6.2.1)
abbrev pub first_values : SourceFunction → List Value → List Value
first_values f arguments = arguments ++ replicate (length (locals f)) (Str [])

-- a function that is there is entered with as many arguments as it has parameters, and with others
-- it is stuck
abbrev pub function_runs : {S : Type 0} → ℕ → Calls S → Program → Option SourceFunction
    → List Value → ℕ → S → Ended S
function_runs string call p None arguments turns state = ended stuck turns state
function_runs string call p (Some f) arguments turns state =
    if length arguments == length f.params
    then run_body (record { string = string; names = names_in p f; call = call }) f.body
    (first_values f arguments) turns state
    else ended stuck turns state

-- what a function of a program comes to: by the limit of Strings, what its calls come to, its place
-- in the program, its arguments, the turns and the host's state
unfoldable pub program_runs : {S : Type 0} → ℕ → Calls S → Program → ℕ → List Value → ℕ → S
    → Ended S
program_runs string call p index = function_runs string call p (slice_get p.functions index)

-- ---- functions of units

-- where nothing is counted, a frame's run depends on the limit of Strings and on what its calls
-- come to
abbrev pub plain_ways : {S : Type 0} → ℕ → Calls S → Ways S
plain_ways string call = record { string = string; tick = λ state. state; call = call }

-- the same of a function that is there, and of none
abbrev pub code_runs : {S : Type 0} → ℕ → Calls S → Function → Option Code → List Value → ℕ → S
    → Ended S
code_runs string call function None arguments turns state = ended stuck turns state
code_runs string call function (Some code) arguments turns state =
    if length arguments == code.args
    then goes (plain_ways string call) (begun function code arguments) turns state
    else ended stuck turns state

-- what a function of a unit comes to, by what its calls come to; which frames wait is forgotten,
-- since sources that call units have none
unfoldable pub unit_runs : {S : Type 0} → ℕ → Calls S → Function → List Value → ℕ → S → Ended S
unit_runs string call function arguments turns state =
    forgotten (code_runs string call function (code_at function) arguments turns state)

-- ---- units alone

-- what a function's calls come to in a host of units, where so many more functions may be entered;
-- which frames wait is forgotten
abbrev pub calls_among_units : {S : Type 0} → Limits → Hosting S → ℕ → Function → Calls S
calls_among_units limits host more function callee arguments turns state =
    let setting = uncounted limits host in
    forgotten (called setting (MOST_DEPTH - more) (enter setting more) function callee arguments
    turns state)

-- where all scripts are units, a function comes to what machines make of it, but for the frames
-- that wait
pub record RunsAsMachines {S : Type 0} (limits : Limits) (host : Hosting S) : Type 0 where
  pub entering : (more : ℕ) (function : Function) (arguments : List Value) (turns : ℕ) (state : S)
      → forgotten (enter (uncounted limits host) (suc more) function arguments turns state)
      ≡ unit_runs limits.string (calls_among_units limits host more function) function arguments
      turns state
