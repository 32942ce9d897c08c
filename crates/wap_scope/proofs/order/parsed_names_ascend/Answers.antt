use Rattle.wap_scope.proofs.OrderLemmas.Programs.{names_apart, faults_ordered}
use Rattle.wap_scope.proofs.order.parsed_names_ascend.Goals as goal

pub returns-clause-names : goal.returns-clause-names
returns-clause-names c = names_apart

pub returns-clause-faults : goal.returns-clause-faults
returns-clause-faults c = faults_ordered
