use Rattle.wap_world.proofs.SiteLemmas.Asking.{Stays-same}
use Rattle.wap_calling.proofs.shelf.ShelfPages.page.Goals as goal

pub returns-in_err-answer-clause-stays : goal.returns-in_err-answer-clause-stays
returns-in_err-answer-clause-stays c = Stays-same _

pub returns-clause-stays : goal.returns-clause-stays
returns-clause-stays c = Stays-same _
