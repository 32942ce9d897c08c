-- The paragraph that is open ends.
use Rattle.wap_mend.specs.inside.Frames.{framed, nothing}
use Rattle.wap_mend.proofs.Framing.{gains_then, gains_nothing}
use Rattle.wap_mend.proofs.frame.Frame.enter.Goals as goal

pub returns : goal.returns
returns c =
    let inside = c.self.inside in
    let new = framed inside.first inside.second inside.third inside.run in
    gains_then c.args.notes.now.changes c.end_run.new.notes.changes c.parted.new.notes.changes
    c.args.self.now c.end_run.new.self new nothing nothing c.in_ok-end_run.ensures.gains
    (gains_nothing c.end_run.new.notes.changes c.parted.new.notes.changes c.end_run.new.self new
    c.self.view_is c.in_ok-outer.ensures)
