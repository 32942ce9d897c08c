use Rattle.wap_push.proofs.Winner.{winner_found, none_found}
use Rattle.wap_push.proofs.laws.winners_are_the_latest.Goals as goal

pub returns-clause-found : goal.returns-clause-found
returns-clause-found c = winner_found

pub returns-clause-none : goal.returns-clause-none
returns-clause-none c = none_found
