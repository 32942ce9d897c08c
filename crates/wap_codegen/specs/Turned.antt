-- Faults of the layers below as faults of the compiler. This project's own.
use Rattle.wap_lex.specs.declared.fault.LexFault.{LexFault}
use Rattle.wap_lex.specs.declared.fault.LexFault.TheVariants as lex
use Rattle.wap_grammar.specs.declared.fault.ParseFault.{ParseFault}
use Rattle.wap_grammar.specs.declared.fault.ParseFault.TheVariants as parse
use Rattle.wap_scope.specs.declared.fault.ScopeFault.{ScopeFault}
use Rattle.wap_scope.specs.declared.fault.ScopeFault.TheVariants as scope
use Rattle.wap_codegen.specs.declared.fault.CompileFault.{CompileFault}
use Rattle.wap_codegen.specs.declared.fault.CompileFault.TheVariants.{Lex, Parse, Scope, NoMemory}

-- a fault of the tokens, where memory didn't run out
abbrev pub lex_fault : LexFault → CompileFault
lex_fault lex.NoMemory = NoMemory
lex_fault fault = Lex fault

-- a fault of the parser
abbrev pub parse_fault : ParseFault → CompileFault
parse_fault parse.NoMemory = NoMemory
parse_fault fault = Parse fault

-- a fault of the names
abbrev pub scope_fault : ScopeFault → CompileFault
scope_fault scope.NoMemory = NoMemory
scope_fault fault = Scope fault
