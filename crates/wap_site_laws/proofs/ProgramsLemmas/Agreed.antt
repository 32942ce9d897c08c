-- The unit that a program is compiled to agrees with it in a browser's world.
use Rattle.wap_world.specs.Steps.{Step}
use Rattle.wap_compiled_laws.proofs.Sources as sources
use Rattle.wap_world.specs.scripting.Sources.{Agrees}
use Rattle.wap_site_laws.specs.programs.Programs.{Accepted, programs, unit_of}
use Rattle.wap_site_laws.proofs.ProgramsLemmas.Entering.{same_entrance, same_external}

-- whatever the functions' calls come to
pub unit_agrees : (one : Accepted) → Agrees programs one (unit_of one)
unit_agrees one = record {
  entrances = same_entrance one.program;
  names = same_external one.program;
  functions = λ string call give base referer index arguments turns step.
      (sources.agree Step).functions one.source one.program one.is base referer index string call
      give arguments turns step;
}
