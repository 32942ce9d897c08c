use Rattle.wap_world.proofs.SessionLawsLemmas.Following.{act_goes_on, visit_goes_on, task_spends}
use Rattle.wap_world.proofs.session_laws.tasks_are_followed_to_their_end.Goals as goal

pub returns-clause-of_task : goal.returns-clause-of_task
returns-clause-of_task c = λ site keys world one falls. act_goes_on site falls keys world one

pub returns-clause-of_url : goal.returns-clause-of_url
returns-clause-of_url c = visit_goes_on

pub returns-clause-turns : goal.returns-clause-turns
returns-clause-turns c = λ site keys world one falls. task_spends site falls keys world one
