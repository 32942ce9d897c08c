use Rattle.std.proofs.Common.{◌+◌, ◌*◌}
use Rattle.wap_meaning.specs.coding.Statements.{stmt_code}
use Rattle.wap_codegen.specs.emission.inside.Exits.{exits_in}
use Rattle.wap_codegen.specs.emission.inside.Operands.{Leaves}
use Rattle.wap_codegen.proofs.emission.statements.+statements.Given as goal

-- so many statements are added
abbrev pub invariant-add_statements-loop-statement : goal.invariant-add_statements-loop-statement
invariant-add_statements-loop-statement l =
    Leaves (stmt_code l.numbering) (exits_in l.inside) l.statements l.statement-index
    l.initial.forms.items l.forms.items

abbrev pub decreases-add_statement : goal.decreases-add_statement
decreases-add_statement l = 2 * goal.size-add_statement l

abbrev pub decreases-add_loop : goal.decreases-add_loop
decreases-add_loop l = 2 * goal.size-add_loop l + 1

abbrev pub decreases-add_statements : goal.decreases-add_statements
decreases-add_statements l = 2 * goal.size-add_statements l + 1
