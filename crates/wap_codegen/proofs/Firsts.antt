-- Why a program has no unit, and that it has room where it has one.
use Rattle.std.proofs.Common.{◌≤◌, length, All, Result, Ok, Err, IfOk, IfErr}
use Rattle.wap_unit.specs.declared.unit.Unit.{Unit as CodeUnit}
use Rattle.wap_grammar.specs.declared.program.program.Program.{Program}
use Rattle.wap_meaning.specs.compiled.Pool.{pool}
use Rattle.wap_meaning.specs.compiled.Wide.{function_wide}
use Rattle.wap_meaning.specs.compiled.Accepted.{most_constants, most_code, HasRoom}
use Rattle.wap_codegen.specs.declared.fault.CompileFault.{CompileFault}
use Rattle.wap_codegen.specs.declared.fault.CompileFault.TheVariants.{NoMemory}
use Rattle.wap_codegen.specs.declared.fault.CompileFault.TheVariants.{CodeTooLong}
use Rattle.wap_codegen.specs.inside.Units.{IsFunctionsCause, IsUnitCause}

-- why functions have no code is why there is no unit, where the constants have room
pub many_or_long : (p : Program) → length (pool p) ≤ most_constants → (fault : CompileFault)
    → IsFunctionsCause p fault → IsUnitCause p fault
many_or_long p few (CodeTooLong function bytes) is = (few, is)
many_or_long p few NoMemory is = tt
many_or_long p few _ is = absurd is

-- where there is a unit, there is room for the program
pub room : (p : Program) → length (pool p) ≤ most_constants → (r : Result CodeUnit CompileFault)
    → IfOk r (λ unit. All (λ f. function_wide f ≤ most_code) p.functions)
    → IfOk r (λ unit. HasRoom p)
room p few (Ok unit) short = record { constants = few; code = short }
room p few (Err fault) short = tt

-- where there is none, this is why
pub why_none : (p : Program) → length (pool p) ≤ most_constants
    → (r : Result CodeUnit CompileFault) → IfErr r (IsFunctionsCause p) → IfErr r (IsUnitCause p)
why_none p few (Ok unit) is = tt
why_none p few (Err fault) is = many_or_long p few fault is
