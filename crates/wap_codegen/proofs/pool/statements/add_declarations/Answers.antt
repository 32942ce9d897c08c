use Rattle.wap_meaning.specs.coding.Needs.{declared_needs, optional_needs}
use Rattle.wap_codegen.proofs.PoolLemmas.Pooling.{pools_variable, leaves_more, leaves_none}
use Rattle.wap_codegen.proofs.pool.statements.add_declarations.Goals as goal

pub loop-pair-preserved : goal.loop-pair-preserved
loop-pair-preserved c =
    leaves_more declared_needs _ _ _ _ _ _ c.loop-pair-test.true c.pair-item.is
    c.loop-pair.invariant (pools_variable c.pair-item.result.0
    (optional_needs c.pair-item.result.1) _ _ c.in_ok-add_optional.ensures)

pub returns : goal.returns
returns c = leaves_none declared_needs _ _ _ _ c.loop-pair-test.false c.loop-pair.invariant
