-- Programs of sources among the scripts of a browser. This project's own.
use Rattle.std.specs.Prelude.{ℕ, List}
use Rattle.wap_unit.specs.declared.unit.Unit.{Unit as CodeUnit}
use Rattle.wap_grammar.specs.declared.program.program.Program.{Program}
use Rattle.wap_meaning.specs.Functions.{program_runs}
use Rattle.wap_meaning.specs.compiled.Units.{compiled}
use Rattle.wap_meaning.specs.compiled.Accepted.{IsAccepted}
use Rattle.wap_world.specs.scripting.Sources.{LanguageOf}
use Rattle.wap_site_laws.specs.programs.Entrances.{entrance, external}

-- a source that is accepted, and its program
pub record Accepted : Type 0 where
  pub source : List ℕ
  pub program : Program
  pub is : IsAccepted source program

-- what these programs are to a browser: their functions come to what the sources mean
abbrev pub programs : LanguageOf Accepted
programs = record {
  runs = λ string call one index arguments turns step.
      program_runs string call one.program index arguments turns step;
  entrance = λ one. entrance one.program;
  external = λ one name. external one.program name;
}

-- the unit that a program is compiled to
abbrev pub unit_of : Accepted → CodeUnit
unit_of one = compiled one.program
