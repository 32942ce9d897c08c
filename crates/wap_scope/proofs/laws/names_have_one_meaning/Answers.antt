use Rattle.wap_scope.proofs.InOrder.{in_order}
use Rattle.wap_scope.proofs.OneMeaning.{one_meaning}
use Rattle.wap_scope.proofs.laws.names_have_one_meaning.Goals as goal

pub returns : goal.returns
returns c = λ p scoped. one_meaning p (in_order p scoped)
