use Rattle.wap_pages.proofs.Histories.{pages_of_answers, held_pages}
use Rattle.wap_pages.proofs.law.answers_of_one_way_have_pages.Goals as goal

pub returns-clause-told : goal.returns-clause-told
returns-clause-told c = pages_of_answers

pub returns-clause-held : goal.returns-clause-held
returns-clause-held c = held_pages
