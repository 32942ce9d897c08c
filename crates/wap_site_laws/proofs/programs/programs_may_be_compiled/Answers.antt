use Rattle.wap_site_laws.proofs.ExchangeLemmas.Replacing.{replaces}
use Rattle.wap_site_laws.specs.programs.Programs.{programs, unit_of}
use Rattle.wap_site_laws.proofs.ProgramsLemmas.Agreed.{unit_agrees}
use Rattle.wap_site_laws.proofs.programs.programs_may_be_compiled.Goals as goal

pub returns : goal.returns
returns c = λ call pages. replaces programs unit_of unit_agrees pages call
