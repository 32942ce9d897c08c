use Rattle.wap_pages.proofs.Judgements.{refused_page, one_fault}
use Rattle.wap_pages.proofs.law.refused_pages_have_faults.Goals as goal

pub returns-clause-some : goal.returns-clause-some
returns-clause-some c = refused_page

pub returns-clause-one : goal.returns-clause-one
returns-clause-one c = one_fault
