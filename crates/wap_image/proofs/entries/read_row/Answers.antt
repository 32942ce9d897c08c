use Rattle.wap_image.specs.declared.context_parts.fault.ImageFault.TheVariants.{NoMemory}
use Rattle.wap_image.specs.inside.ImageReading.{entry_at}
use Rattle.wap_base.proofs.formats.Loops.{one_more, left_at}
use Rattle.wap_image.proofs.entries.read_row.Goals as goal

pub returns-in_err-entry : goal.returns-in_err-entry
returns-in_err-entry c =
    left_at (λ before. entry_at) _ _ _ _ _ _ NoMemory (λ read. (read.0, read.1.now)) _ _
    c.from_residual.ensures.1 c.loop-test.true c.in_err-entry.ensures c.loop.invariant

pub loop-preserved : goal.loop-preserved
loop-preserved c =
    rw c.in_ok-add.ensures.ok
    (one_more (λ before. entry_at) _ _ _ _ _ _ _ _ c.loop-test.true c.in_ok-entry.ensures
    c.loop.invariant)
