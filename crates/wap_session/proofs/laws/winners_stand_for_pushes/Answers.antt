use Rattle.wap_session.proofs.Turning.{stands_for}
use Rattle.wap_session.proofs.laws.winners_stand_for_pushes.Goals as goal

pub returns : goal.returns
returns c = stands_for
