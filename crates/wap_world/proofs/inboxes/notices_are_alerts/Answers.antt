use Rattle.wap_world.proofs.InboxesLemmas.Alerts.{alert_is}
use Rattle.wap_world.proofs.inboxes.notices_are_alerts.Goals as goal

pub returns : goal.returns
returns c = alert_is
