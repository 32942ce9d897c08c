use Rattle.wap_meaning.specs.coding.Needs.{stmt_needs}
use Rattle.wap_codegen.specs.pool.inside.Leaves.{Leaves}
use Rattle.wap_codegen.proofs.pool.statements.+statements.Given as goal

-- those of so many statements are added
abbrev pub invariant-add_statements-loop-statement : goal.invariant-add_statements-loop-statement
invariant-add_statements-loop-statement l =
    Leaves stmt_needs l.statements l.statement-index l.initial.numbering l.numbering
