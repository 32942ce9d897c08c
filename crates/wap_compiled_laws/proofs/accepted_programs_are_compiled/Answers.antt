use Rattle.wap_compiled_laws.proofs.Sources.{compiled_so}
use Rattle.wap_compiled_laws.proofs.accepted_programs_are_compiled.Goals as goal

pub returns : goal.returns
returns c = compiled_so
