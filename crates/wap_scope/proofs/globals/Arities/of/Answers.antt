use Rattle.std.proofs.Common.{ℕ, ap, ◌∙◌}
use Rattle.wap_scope.specs.inside.Globals.{with_count}
use Rattle.wap_scope.proofs.Counting.{one_more}
use Rattle.wap_scope.proofs.globals.Arities.of.Goals as goal

pub loop-function-preserved : goal.loop-function-preserved
loop-function-preserved c =
    one_more c.args.functions.now c.loop-function.function-index c.function-item.result
    c.loop-function-test.true c.function-item.is c.loop-function.arities c.add.new.self
    c.loop-function.invariant
    (c.in_ok-add.ensures
    ∙ ap (λ (count : ℕ). with_count c.loop-function.arities c.function-item.result.name.name count)
    c.len.ensures)
