use Rattle.wap_codegen.proofs.PoolLemmas.Pooling.{leaves_more, leaves_none}
use Rattle.wap_codegen.proofs.pool.programs.add_uses.Goals as goal

pub loop-pragma-preserved : goal.loop-pragma-preserved
loop-pragma-preserved c =
    leaves_more _ _ _ _ _ _ _ c.loop-pragma-test.true c.pragma-item.is c.loop-pragma.invariant
    c.in_ok-add_use.ensures

pub returns : goal.returns
returns c = leaves_none _ _ _ _ _ c.loop-pragma-test.false c.loop-pragma.invariant
