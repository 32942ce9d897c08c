use Rattle.std.proofs.Common.{List, ap}
use Rattle.std.specs.List.{flat_map}
use Rattle.wap_grammar.specs.declared.program.statement.Stmt.{Stmt}
use Rattle.wap_meaning.specs.coding.Needs.{stmt_needs}
use Rattle.wap_codegen.proofs.PoolLemmas.Pooling.{pools_same, leaves_more, leaves_none}
use Rattle.wap_codegen.proofs.pool.programs.add_functions.Goals as goal

pub loop-function-preserved : goal.loop-function-preserved
loop-function-preserved c =
    leaves_more _ _ _ _ _ _ _ c.loop-function-test.true c.function-item.is c.loop-function.invariant
    (pools_same (ap (λ (ss : List Stmt). flat_map stmt_needs ss) c.as_slice.ensures)
    c.in_ok-add_statements.ensures)

pub returns : goal.returns
returns c = leaves_none _ _ _ _ _ c.loop-function-test.false c.loop-function.invariant
