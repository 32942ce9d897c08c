use Rattle.std.proofs.Common.{[]}
use Rattle.wap_world.proofs.InboxesLemmas.Alike.{winners_win}
use Rattle.wap_session.proofs.session.Session.of.Goals as goal

pub invariant_of-result : goal.invariant_of-result
invariant_of-result c = winners_win [] c.new.result c.new.ensures.pushes
