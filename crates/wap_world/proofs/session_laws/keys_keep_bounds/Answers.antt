use Rattle.wap_world.proofs.Laws.{turns_fall, history_bound}
use Rattle.wap_world.proofs.session_laws.keys_keep_bounds.Goals as goal

pub returns-clause-turns : goal.returns-clause-turns
returns-clause-turns c = λ site one keys world falls. turns_fall site falls one keys world

pub returns-clause-history : goal.returns-clause-history
returns-clause-history c = λ site one keys world keeps. history_bound site keeps one keys world
