use Rattle.wap_verify.proofs.RunnableLemmas.Alike.{alike}
use Rattle.wap_verify.proofs.RunnableLemmas.Deciding.{passes, fails}
use Rattle.wap_verify.proofs.runnable.units_may_be_run_or_have_a_fault.Goals as goal

pub returns-clause-passes : goal.returns-clause-passes
returns-clause-passes c = passes

pub returns-clause-fails : goal.returns-clause-fails
returns-clause-fails c = fails

pub returns-clause-alike : goal.returns-clause-alike
returns-clause-alike c = alike
