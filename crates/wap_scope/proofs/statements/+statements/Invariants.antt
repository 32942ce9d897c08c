use Rattle.std.proofs.Common.{◌≡◌, ◌+◌, ◌*◌, drop}
use Rattle.wap_grammar.specs.declared.program.statement.Stmt.{Stmt}
use Rattle.wap_scope.specs.Names.{mentions}
use Rattle.wap_scope.specs.inside.Globals.{scope_by}
use Rattle.wap_scope.specs.inside.Walks.{walked_each}
use Rattle.wap_scope.proofs.statements.+statements.Given as goal

-- what is left finds what the whole does
abbrev pub invariant-judge_statements-loop-statement :
    goal.invariant-judge_statements-loop-statement
invariant-judge_statements-loop-statement l =
    walked_each (scope_by l.globals) (λ (statement : Stmt). mentions statement l.inside) l.known
    (drop l.statement-index l.statements)
    ≡ walked_each (scope_by l.globals) (λ (statement : Stmt). mentions statement l.inside)
    l.initial.known l.statements

abbrev pub decreases-judge_statement : goal.decreases-judge_statement
decreases-judge_statement l = 2 * goal.size-judge_statement l

abbrev pub decreases-judge_statements : goal.decreases-judge_statements
decreases-judge_statements l = 2 * goal.size-judge_statements l + 1
