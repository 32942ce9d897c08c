use Rattle.wap_scope.proofs.InOrder.{in_order}
use Rattle.wap_scope.proofs.AcceptedLemmas.Known.{all_can_be, parameters_first}
use Rattle.wap_scope.proofs.accepted.scoped_names_are_known.Goals as goal

pub returns-clause-known : goal.returns-clause-known
returns-clause-known c = λ p scoped. all_can_be p (in_order p scoped)

pub returns-clause-parameters : goal.returns-clause-parameters
returns-clause-parameters c = parameters_first
