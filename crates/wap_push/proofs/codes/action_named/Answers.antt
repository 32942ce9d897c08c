use Rattle.wap_push.specs.Tables.{action_rows}
use Rattle.wap_push.proofs.codes.action_named.Goals as goal

pub returns : goal.returns
unfolding action_rows
returns c = c.action_beside.ensures
