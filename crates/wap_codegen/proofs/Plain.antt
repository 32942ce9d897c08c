-- A fault of a layer below isn't want of memory, once it is a fault of the compiler.
use Rattle.wap_lex.specs.declared.fault.LexFault.{LexFault}
use Rattle.wap_lex.specs.declared.fault.LexFault.TheVariants as lex
use Rattle.wap_grammar.specs.declared.fault.ParseFault.{ParseFault}
use Rattle.wap_grammar.specs.declared.fault.ParseFault.TheVariants as parse
use Rattle.wap_grammar.specs.declared.program.program.Program.{Program}
use Rattle.wap_scope.specs.declared.fault.ScopeFault.{ScopeFault}
use Rattle.wap_scope.specs.declared.fault.ScopeFault.TheVariants as scope
use Rattle.wap_codegen.specs.declared.fault.CompileFault.{CompileFault}
use Rattle.wap_codegen.specs.declared.fault.CompileFault.TheVariants.{Lex, Parse, Scope}
use Rattle.wap_codegen.specs.Turned.{lex_fault, parse_fault, scope_fault}
use Rattle.wap_codegen.specs.Faults.{IsPlain}
use Rattle.wap_codegen.specs.inside.Units.{IsUnitCause}

pub plain_lex : (fault : LexFault) → IsPlain (lex_fault fault)
plain_lex lex.NoMemory = tt
plain_lex fault = λ e. cc

pub plain_parse : (fault : ParseFault) → IsPlain (parse_fault fault)
plain_parse parse.NoMemory = tt
plain_parse fault = λ e. cc

pub plain_scope : (fault : ScopeFault) → IsPlain (scope_fault fault)
plain_scope scope.NoMemory = tt
plain_scope fault = λ e. cc

-- a unit has no fault of these layers
pub plain_unit : (p : Program) (fault : CompileFault) → IsUnitCause p fault → IsPlain fault
plain_unit p (Lex fault) is = absurd is
plain_unit p (Parse fault) is = absurd is
plain_unit p (Scope fault) is = absurd is
plain_unit p _ is = tt
