-- First it is noted if it comes behind one of a later group, and then added.
use Rattle.std.proofs.lemmas.Result.{on_ok_weaker}
use Rattle.wap_mend.specs.inside.Frames.{nothing, load_built}
use Rattle.wap_mend.proofs.Framing.{gains_then, built_quiet}
use Rattle.wap_mend.proofs.frame.Frame.add_in_order.Goals as goal

pub add_by_tag-requires-clause-quiet : goal.add_by_tag-requires-clause-quiet
add_by_tag-requires-clause-quiet c =
    built_quiet c.element.inside.levels c.element.inside.node c.args.element c.element.view_is
    c.element.invariant

pub returns-clause-gains : goal.returns-clause-gains
returns-clause-gains c =
    on_ok_weaker c.add_by_tag.result
    (gains_then c.args.notes.now.changes c.reach.new.notes.changes
    c.add_by_tag.new.notes.changes c.args.self.now c.reach.new.self c.add_by_tag.new.self nothing
    (load_built c.args.element) c.in_ok-reach.ensures.gains) c.add_by_tag.ensures.gains
