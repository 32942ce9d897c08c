-- The attributes of another element stay.
use Rattle.wap_mend.specs.inside.Frames.{rows_load}
use Rattle.wap_mend.proofs.Loads.{keeps_whole}
use Rattle.wap_mend.proofs.apart.told_apart.Goals as goal

pub returns-else-eq-clause-keeps : goal.returns-else-eq-clause-keeps
returns-else-eq-clause-keeps c =
    keeps_whole c.args.notes.now.changes (rows_load c.args.attributes.tag c.args.attributes.rows)
