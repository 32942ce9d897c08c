use Rattle.wap_cli.proofs.ResumeLawsLemmas.Sourced.{sourced_go_on, sourced_go_on_over}
use Rattle.wap_cli.proofs.resume_laws.saved_sessions_go_on_over_sources.Goals as goal

pub returns-clause-one_store : goal.returns-clause-one_store
returns-clause-one_store c begun contents pages first others parts distinct are ends whole none =
    sourced_go_on begun first others parts none contents distinct pages are ends whole

pub returns-clause-two_stores : goal.returns-clause-two_stores
returns-clause-two_stores c begun contents later name pages other_pages first others parts distinct
    agree are are_other ends whole none unasked =
    sourced_go_on_over begun first others parts none contents distinct later name agree pages are
    other_pages are_other ends whole unasked
