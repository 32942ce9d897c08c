use Rattle.std.proofs.Common.{[], ◌∷◌}
use Rattle.wap_scope.specs.Names.{Declares}
use Rattle.wap_codegen.specs.pool.inside.Declaring.{LeavesNames}
use Rattle.wap_codegen.proofs.pool.variables.add_parameters.Given as goal

-- the names of so many parameters are added
abbrev pub invariant-loop-param : goal.invariant-loop-param
invariant-loop-param l =
    LeavesNames (λ v. Declares v ∷ []) l.params l.param-index l.initial.names l.names
