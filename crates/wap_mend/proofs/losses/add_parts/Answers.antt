use Rattle.wap_mend.proofs.Accounting.{parts_turn}
use Rattle.wap_mend.proofs.losses.add_parts.Goals as goal

-- with each part, the texts have its signs
pub loop-part-preserved : goal.loop-part-preserved
loop-part-preserved c =
    parts_turn c.args.parts.now c.loop-part.part-index c.part-item.result
    c.in_ok-copied_part.field-0 c.args.texts.now c.loop-part.texts c.add.new.self
    c.loop-part-test.true c.part-item.is c.in_ok-copied_part.ensures c.loop-part.invariant
    c.in_ok-add.ensures.ok
