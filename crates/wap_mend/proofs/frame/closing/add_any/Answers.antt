-- Where there is none nothing is added.
use Rattle.std.proofs.Common.{sym, subst}
use Rattle.wap_mend.specs.inside.Frames.{load_if, Collects}
use Rattle.wap_mend.proofs.Loads.{still_refl}
use Rattle.wap_mend.proofs.Framing.{nothing_collected}
use Rattle.wap_mend.proofs.frame.closing.add_any.Goals as goal

pub returns-in-None : goal.returns-in-None
returns-in-None c =
    let changes = c.args.notes.now.changes in
    let content = c.args.content.now in
    subst (λ element. Collects changes changes content content (load_if element))
    (sym c.in-None.is) (nothing_collected changes changes content
    (still_refl changes))
