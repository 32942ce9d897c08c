use Rattle.wap_scope.proofs.Listed.{faultless_where_scoped, scoped_without_faults}
use Rattle.wap_scope.proofs.laws.scoped_is_faultless.Goals as goal

pub returns : goal.returns
returns c = λ p. (faultless_where_scoped p, scoped_without_faults p)
