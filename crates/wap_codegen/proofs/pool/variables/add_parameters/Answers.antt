use Rattle.std.proofs.Common.{[], ◌∷◌}
use Rattle.wap_grammar.specs.declared.program.program.Id.{Id}
use Rattle.wap_scope.specs.Names.{Declares}
use Rattle.wap_codegen.proofs.PoolLemmas.Declared.{leaves_all, leaves_none, declaring_same}
use Rattle.wap_codegen.proofs.PoolLemmas.Declared.{leaves_more, declares_parameter, parameters_flat}
use Rattle.wap_codegen.proofs.pool.variables.add_parameters.Goals as goal

pub loop-param-init : goal.loop-param-init
loop-param-init c = leaves_all (λ (v : Id). Declares v ∷ []) c.args.params.now c.args.names.now

pub loop-param-preserved : goal.loop-param-preserved
loop-param-preserved c =
    leaves_more _ _ _ _ _ _ _ c.loop-param-test.true c.param-item.is c.loop-param.invariant
    (declares_parameter c.param-item.result _ _ c.in_ok-add.ensures)

pub returns : goal.returns
returns c =
    declaring_same (parameters_flat c.args.params.now)
    (leaves_none _ _ _ _ _ c.loop-param-test.false c.loop-param.invariant)
