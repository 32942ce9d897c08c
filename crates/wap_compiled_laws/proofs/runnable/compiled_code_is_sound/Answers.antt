use Rattle.wap_compiled_laws.proofs.RunnableLemmas.Whole.{sound}
use Rattle.wap_compiled_laws.proofs.runnable.compiled_code_is_sound.Goals as goal

pub returns : goal.returns
returns c = λ p u pool f code index is. sound is
