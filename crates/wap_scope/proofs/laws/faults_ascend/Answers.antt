use Rattle.wap_scope.proofs.Ascending.{ascend, placed_all}
use Rattle.wap_scope.proofs.Ordered.{ordered}
use Rattle.wap_scope.proofs.laws.faults_ascend.Goals as goal

pub returns-clause-placed : goal.returns-clause-placed
returns-clause-placed c = placed_all

pub returns-clause-ascend : goal.returns-clause-ascend
returns-clause-ascend c = ascend

pub returns-clause-ordered : goal.returns-clause-ordered
returns-clause-ordered c = ordered
