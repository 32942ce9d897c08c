-- Nothing is gained, whether the element is noted or not.
use Rattle.std.proofs.Common.{refl}
use Rattle.std.proofs.lemmas.Result.{on_ok_weaker}
use Rattle.wap_mend.proofs.Loads.{still_refl}
use Rattle.wap_mend.proofs.Framing.{gains_nothing}
use Rattle.wap_mend.proofs.frame.Frame.reach.Goals as goal

pub returns-then-group-self-clause-gains : goal.returns-then-group-self-clause-gains
returns-then-group-self-clause-gains c =
    let frame = c.args.self.now in
    on_ok_weaker c.note.result
    (gains_nothing c.args.notes.now.changes c.note.new.self.changes frame frame refl)
    c.note.ensures.still

pub returns-clause-gains : goal.returns-clause-gains
returns-clause-gains c =
    let changes = c.args.notes.now.changes in
    gains_nothing changes changes c.args.self.now _ c.self.view_is (still_refl changes)
