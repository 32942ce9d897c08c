use Rattle.wap_parse.proofs.InvocationLemmas.CallReading.{is_call, is_read, one_call}
use Rattle.wap_parse.proofs.invocation.laws.calls_are_read.Goals as goal

pub returns-clause-read : goal.returns-clause-read
returns-clause-read c = λ fragment call. (is_read fragment call, is_call fragment call)

pub returns-clause-one : goal.returns-clause-one
returns-clause-one c = one_call
