-- What the code of a unit is made from, and why there is none. This project's own.
use Rattle.std.specs.Prelude.{◌≡◌, ℕ, ◌+◌, ◌<◌, ◌≤◌, List, length}
use Rattle.std.specs.List.{All, filter_map}
use Rattle.wap_asm.specs.declared.form.Form.{Form}
use Rattle.wap_asm.specs.Placing.{wide}
use Rattle.wap_grammar.specs.declared.program.program.Function.{Function}
use Rattle.wap_grammar.specs.declared.program.program.Program.{Program}
use Rattle.wap_scope.specs.Meanings.{function_names}
use Rattle.wap_scope.specs.accepted.Known.{variables}
use Rattle.wap_meaning.specs.Names.{url_in}
use Rattle.wap_meaning.specs.coding.Constants.{Numbers}
use Rattle.wap_codegen.specs.pool.Names.{AreOnce}
use Rattle.wap_meaning.specs.compiled.Pool.{pool}
use Rattle.wap_meaning.specs.compiled.Wide.{function_wide}
use Rattle.wap_meaning.specs.compiled.Savings.{saved, function_saves}
use Rattle.wap_meaning.specs.compiled.Accepted.{most_constants, most_code}
use Rattle.wap_compiled_laws.specs.Laws.{HasForms}
use Rattle.wap_codegen.specs.Faults.{IsFirstLong}
use Rattle.wap_codegen.specs.declared.fault.CompileFault.{CompileFault}
use Rattle.wap_codegen.specs.declared.fault.CompileFault.TheVariants.{TooManyConstants, CodeTooLong}
use Rattle.wap_codegen.specs.declared.fault.CompileFault.TheVariants.{NoMemory}

-- ---- numbers

-- names and constants are numbered as in a program, but for the variables of its functions
pub record AreNumbersOf (p : Program) (numbers : Numbers) : Type 0 where
  pub functions : numbers.names.functions ≡ function_names p
  pub urls : numbers.names.urls ≡ filter_map url_in p.uses
  pub pool : numbers.pool ≡ pool p

-- ---- functions

-- code can be made for a function: its variables stand once, and there are no more of them than a
-- byte counts
pub record CanBeMade (p : Program) (f : Function) : Type 0 where
  pub forms : HasForms p f
  pub once : AreOnce (variables f)
  pub few : length (variables f) ≤ 255

-- the functions of a program, where its constants have room
abbrev pub AllHaveForms : Program → Type 0
AllHaveForms p = length (pool p) ≤ most_constants → All (HasForms p) p.functions

-- ---- why there is no code

-- why the forms of a function have no code: with what operations of their own and statements save,
-- their wide code is too long
abbrev pub IsFormsCause : ℕ → Function → List Form → CompileFault → Type 0
IsFormsCause index f forms (CodeTooLong function bytes) =
    (function ≡ index) × (bytes ≡ wide forms + saved forms + function_saves f)
    × (most_code < bytes)
IsFormsCause index f forms NoMemory = Unit {0}
IsFormsCause index f forms _ = ⊥

-- why a function has no code
abbrev pub IsFunctionCause : ℕ → Function → CompileFault → Type 0
IsFunctionCause index f (CodeTooLong function bytes) =
    (function ≡ index) × (bytes ≡ function_wide f) × (most_code < bytes)
IsFunctionCause index f NoMemory = Unit {0}
IsFunctionCause index f _ = ⊥

-- why functions have no code
abbrev pub IsFunctionsCause : Program → CompileFault → Type 0
IsFunctionsCause p (CodeTooLong function bytes) = IsFirstLong p.functions function bytes
IsFunctionsCause p NoMemory = Unit {0}
IsFunctionsCause p _ = ⊥

-- why a program has no unit
abbrev pub IsUnitCause : Program → CompileFault → Type 0
IsUnitCause p (TooManyConstants count) =
    (most_constants < count) × (count ≡ length (pool p))
IsUnitCause p (CodeTooLong function bytes) =
    (length (pool p) ≤ most_constants) × IsFirstLong p.functions function bytes
IsUnitCause p NoMemory = Unit {0}
IsUnitCause p _ = ⊥
