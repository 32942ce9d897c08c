use Rattle.wap_meaning.proofs.NeedsLemmas.Once.{pool_needed, needed_pooled, pool_once}
use Rattle.wap_meaning.proofs.needs.needs_are_pooled_once.Goals as goal

pub returns-clause-needed : goal.returns-clause-needed
returns-clause-needed c = λ p l. (pool_needed p l, needed_pooled p l)

pub returns-clause-once : goal.returns-clause-once
returns-clause-once c = pool_once
