use Rattle.wap_scope.specs.Names.{declares}
use Rattle.wap_codegen.specs.pool.inside.Declaring.{LeavesNames}
use Rattle.wap_codegen.proofs.pool.variables.add_declarations.Given as goal

-- the names of so many declarations are added
abbrev pub invariant-loop-pair : goal.invariant-loop-pair
invariant-loop-pair l = LeavesNames declares l.pairs l.pair-index l.initial.names l.names
