use Rattle.wap_push.proofs.One.{one}
use Rattle.wap_push.proofs.laws.winners_are_one.Goals as goal

pub returns : goal.returns
returns c = one
