-- Where nothing is in it nothing changes.
use Rattle.std.proofs.Common.{refl}
use Rattle.wap_mend.proofs.Loads.{still_refl}
use Rattle.wap_mend.proofs.Framing.{gains_nothing}
use Rattle.wap_mend.proofs.frame.Frame.end_run.Goals as goal

pub returns-then-is_empty-clause-gains : goal.returns-then-is_empty-clause-gains
returns-then-is_empty-clause-gains c =
    let changes = c.args.notes.now.changes in
    gains_nothing changes changes c.args.self.now c.args.self.now refl
    (still_refl changes)
