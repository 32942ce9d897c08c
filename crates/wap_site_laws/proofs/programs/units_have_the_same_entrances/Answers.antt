use Rattle.wap_site_laws.proofs.ProgramsLemmas.Entering.{same_entrance, same_external}
use Rattle.wap_site_laws.proofs.programs.units_have_the_same_entrances.Goals as goal

pub returns-clause-entrances : goal.returns-clause-entrances
returns-clause-entrances c = same_entrance

pub returns-clause-names : goal.returns-clause-names
returns-clause-names c = same_external
