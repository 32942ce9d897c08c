-- Where the name is free the attributes stay.
use Rattle.wap_mend.specs.inside.Frames.{rows_load}
use Rattle.wap_mend.proofs.Loads.{keeps_whole}
use Rattle.wap_mend.proofs.apart.do_attributes.Goals as goal

pub returns-in_default-clause-keeps : goal.returns-in_default-clause-keeps
returns-in_default-clause-keeps c =
    keeps_whole c.args.notes.now.changes (rows_load c.args.attributes.tag c.args.attributes.rows)

pub returns-else-branch-clause-keeps : goal.returns-else-branch-clause-keeps
returns-else-branch-clause-keeps c =
    keeps_whole c.args.notes.now.changes (rows_load c.args.attributes.tag c.args.attributes.rows)
