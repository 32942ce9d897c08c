use Rattle.wap_compiled_laws.proofs.Sources.{code}
use Rattle.wap_compiled_laws.proofs.code_is_short.Goals as goal

pub returns : goal.returns
returns c = code
