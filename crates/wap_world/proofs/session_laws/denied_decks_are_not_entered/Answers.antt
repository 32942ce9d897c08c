use Rattle.wap_world.proofs.Laws.{denies}
use Rattle.wap_world.proofs.SessionLawsLemmas.Denied.{denies_go}
use Rattle.wap_world.proofs.session_laws.denied_decks_are_not_entered.Goals as goal

pub returns-clause-of_request : goal.returns-clause-of_request
returns-clause-of_request c = denies

pub returns-clause-of_go : goal.returns-clause-of_go
returns-clause-of_go c = denies_go
