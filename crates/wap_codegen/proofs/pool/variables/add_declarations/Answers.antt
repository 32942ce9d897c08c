use Rattle.wap_scope.specs.Names.{declares}
use Rattle.wap_codegen.proofs.PoolLemmas.Declared.{leaves_all, leaves_more, leaves_none}
use Rattle.wap_codegen.proofs.PoolLemmas.Declared.{declares_name}
use Rattle.wap_codegen.proofs.pool.variables.add_declarations.Goals as goal

pub loop-pair-init : goal.loop-pair-init
loop-pair-init c = leaves_all declares c.args.pairs.now c.args.names.now

pub loop-pair-preserved : goal.loop-pair-preserved
loop-pair-preserved c =
    leaves_more _ _ _ _ _ _ _ c.loop-pair-test.true c.pair-item.is c.loop-pair.invariant
    (declares_name c.pair-item.result _ _ c.in_ok-add.ensures)

pub returns : goal.returns
returns c = leaves_none _ _ _ _ _ c.loop-pair-test.false c.loop-pair.invariant
