use Rattle.wap_session.proofs.Sessions.{in_dialogs}
use Rattle.wap_session.proofs.laws.dialogs_take_no_push.Goals as goal

pub returns : goal.returns
returns c = in_dialogs
