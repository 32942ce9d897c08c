use Rattle.wap_scope.proofs.Listed.{listed, is_fault}
use Rattle.wap_scope.proofs.laws.faults_are_listed.Goals as goal

pub returns : goal.returns
returns c = λ p why. (listed p why, is_fault p why)
