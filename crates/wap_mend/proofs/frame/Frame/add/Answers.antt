-- First the paragraph that is open ends, and then the element is added.
use Rattle.std.proofs.lemmas.Result.{on_ok_weaker}
use Rattle.wap_mend.specs.inside.Frames.{nothing, load_built}
use Rattle.wap_mend.proofs.Framing.{gains_then}
use Rattle.wap_mend.proofs.frame.Frame.add.Goals as goal

pub returns : goal.returns
returns c =
    on_ok_weaker c.add_in_order.result
    (gains_then c.args.notes.now.changes c.end_run.new.notes.changes
    c.add_in_order.new.notes.changes c.args.self.now c.end_run.new.self c.add_in_order.new.self
    nothing (load_built c.args.element) c.in_ok-end_run.ensures.gains)
    c.add_in_order.ensures.gains
