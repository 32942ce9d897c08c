use Rattle.wap_meaning.proofs.NeedsLemmas.Operators.{operators}
use Rattle.wap_meaning.proofs.needs.assignments_take_both.Goals as goal

pub returns : goal.returns
returns c = operators
