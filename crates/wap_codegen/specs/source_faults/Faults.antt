-- The faults that a source has, whatever memory there is. This project's own.
use Rattle.std.specs.Prelude.{◌≢◌, ℕ, List}
use Rattle.wap_codegen.specs.Faults.{IsCompileFault}
use Rattle.wap_codegen.specs.declared.fault.CompileFault.{CompileFault}
use Rattle.wap_codegen.specs.declared.fault.CompileFault.TheVariants as fault

-- a fault of a source; that memory ran out is none
pub record IsFaultOf (source : List ℕ) (why : CompileFault) : Type 0 where
  pub cause : IsCompileFault source why
  pub some : why ≢ fault.NoMemory
