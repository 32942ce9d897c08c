use Rattle.wap_wbxml.proofs.MadeBodies.{whole_alone}
use Rattle.wap_wbxml.proofs.documents.read.Goals as goal

pub returns : goal.returns
returns g c = rw (← whole_alone g.B.Builder.makes c.args.kind c.args.bytes.now) c.read_alone.ensures
