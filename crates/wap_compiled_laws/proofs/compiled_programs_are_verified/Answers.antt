use Rattle.wap_compiled_laws.proofs.Sources.{verified_so}
use Rattle.wap_compiled_laws.proofs.compiled_programs_are_verified.Goals as goal

pub returns : goal.returns
returns c = verified_so
