use Rattle.std.proofs.Common.{List, ℕ, sym, ap, ◌∙◌}
use Rattle.wap_image.specs.declared.context_parts.fault.ImageFault.TheVariants.{NoMemory}
use Rattle.wap_image.specs.inside.ImageReading.{variable_at}
use Rattle.wap_base.proofs.formats.Loops.{one_more, left_at}
use Rattle.wap_image.proofs.variables.read_row.Goals as goal

pub returns-in_err-variable : goal.returns-in_err-variable
returns-in_err-variable c =
    left_at variable_at _ _ _ _ _ _ NoMemory (λ read. (read.0, read.1.now)) _ _
    c.from_residual.ensures.1 c.loop-test.true (λ other.
    ap (λ (before : List (List ℕ × List ℕ)). variable_at before c.args.end c.loop.rest.now)
    (sym c.as_slice.ensures)
    ∙ c.in_err-variable.ensures other) c.loop.invariant

pub loop-preserved : goal.loop-preserved
loop-preserved c =
    rw c.in_ok-add.ensures.ok
    (one_more variable_at _ _ _ _ _ _ _ _ c.loop-test.true
    (ap (λ (before : List (List ℕ × List ℕ)). variable_at before c.args.end c.loop.rest.now)
    (sym c.as_slice.ensures)
    ∙ c.in_ok-variable.ensures) c.loop.invariant)
