use Rattle.std.proofs.Common.{Bool}
use Rattle.wap_scope.specs.Names.{mentions}
use Rattle.wap_codegen.specs.pool.inside.Declaring.{LeavesNames}
use Rattle.wap_codegen.proofs.pool.variables.+variables.Given as goal

-- the names that so many statements declare are added
abbrev pub invariant-add_statements-loop-statement : goal.invariant-add_statements-loop-statement
invariant-add_statements-loop-statement l =
    (inside : Bool) → LeavesNames (λ s. mentions s inside) l.statements l.statement-index
    l.initial.names l.names
