use Rattle.wap_lex.proofs.Unique.{apart, one_fault}
use Rattle.wap_lex.proofs.laws.faults_have_no_tokens.Goals as goal

pub returns-clause-apart : goal.returns-clause-apart
returns-clause-apart c = apart

pub returns-clause-one : goal.returns-clause-one
returns-clause-one c = one_fault
