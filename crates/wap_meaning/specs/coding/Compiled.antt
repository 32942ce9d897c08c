-- When a unit is one that a program is compiled to. This project's own.
use Rattle.std.specs.Prelude.{◌≡◌, ℕ, List, length, map, slice_get, None, Some}
use Rattle.std.specs.List.{flat_map}
use Rattle.wap_unit.specs.declared.unit.Unit.{Unit as CodeUnit}
use Rattle.wap_unit.specs.declared.unit.Code.{Code}
use Rattle.wap_value.specs.declared.value.Value.{Value}
use Rattle.wap_asm.specs.Placed.{IsPlaced}
use Rattle.wap_execution.specs.Frames.{Function}
use Rattle.wap_execution.specs.Running.{Calls}
use Rattle.wap_grammar.specs.declared.program.expression.Literal.{Literal}
use Rattle.wap_grammar.specs.declared.program.program.Function.{Function as SourceFunction}
use Rattle.wap_grammar.specs.declared.program.program.Program.{Program}
use Rattle.wap_meaning.specs.Names.{locals, names_in}
use Rattle.wap_meaning.specs.Functions.{program_runs, unit_runs}
use Rattle.wap_meaning.specs.Keeping.{GiveNoTurns}
use Rattle.wap_meaning.specs.coding.Coded.{Coded, all_code}
use Rattle.wap_meaning.specs.coding.Constants.{Numbers}
use Rattle.wap_meaning.specs.coding.Statements.{stmt_code}
use Rattle.wap_meaning.specs.coding.Needs.{AreMet, stmt_needs}

-- the code of a function
abbrev pub function_code : Numbers → SourceFunction → Coded
function_code numbers f = all_code (map (stmt_code numbers) f.body)

-- what the names in a function of a program mean, and the constants of its unit
abbrev pub numbers_in : Program → List Literal → SourceFunction → Numbers
numbers_in p pool f = record { names = names_in p f; pool = pool }

-- a unit's function is the code of a source's
pub record IsCodeOf (p : Program) (u : CodeUnit) (pool : List Literal) (f : SourceFunction)
    (code : Code) : Type 0 where
  -- it has as many parameters and other variables
  pub parameters : code.args ≡ length f.params
  pub variables : code.locals ≡ length (locals f)
  -- the unit has what the function needs
  pub met : AreMet u (numbers_in p pool f) (flat_map stmt_needs f.body)
  -- its bytes are those of the function's forms in order
  pub start : ℕ → ℕ
  pub placed : IsPlaced code.code ((function_code (numbers_in p pool f) f).forms None 0) start

-- a unit's functions are the code of a program's, in order
pub record IsCompiled (p : Program) (u : CodeUnit) : Type 0 where
  pub pool : List Literal
  pub none : (i : ℕ) → slice_get p.functions i ≡ None → slice_get u.functions i ≡ None
  pub some : (i : ℕ) (f : SourceFunction) → slice_get p.functions i ≡ Some f →
      (code : Code) × (slice_get u.functions i ≡ Some code) × IsCodeOf p u pool f code

-- a unit that a program is compiled to agrees with it: whatever calls come to that give no turns
-- back, each of its functions comes to what the program's comes to, with the same turns and the
-- same state
pub record AgreeWithPrograms (S : Type 0) : Type 0 where
  pub functions : (p : Program) (function : Function) → IsCompiled p function.unit
      → (string : ℕ) (call : Calls S) → GiveNoTurns call
      → (arguments : List Value) (turns : ℕ) (state : S)
      → program_runs string call p function.index arguments turns state
      ≡ unit_runs string call function arguments turns state
