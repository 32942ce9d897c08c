use Rattle.wap_session.proofs.Sessions.{begins}
use Rattle.wap_session.proofs.laws.sessions_begin_without_pushes.Goals as goal

pub returns : goal.returns
returns c = begins
