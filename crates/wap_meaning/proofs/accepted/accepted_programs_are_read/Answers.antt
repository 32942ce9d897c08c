use Rattle.wap_meaning.proofs.AcceptedLemmas.Accepting.{some, none}
use Rattle.wap_meaning.proofs.accepted.accepted_programs_are_read.Goals as goal

pub returns-clause-some : goal.returns-clause-some
returns-clause-some c = some

pub returns-clause-none : goal.returns-clause-none
returns-clause-none c = none
