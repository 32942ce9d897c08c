-- Where a paragraph is open nothing changes.
use Rattle.std.proofs.Common.{refl}
use Rattle.wap_mend.proofs.Loads.{still_refl}
use Rattle.wap_mend.proofs.Framing.{gains_nothing}
use Rattle.wap_mend.proofs.frame.Frame.begin_run.Goals as goal

pub returns : goal.returns
returns c =
    let changes = c.args.notes.now.changes in
    gains_nothing changes changes c.args.self.now c.args.self.now refl
    (still_refl changes)
