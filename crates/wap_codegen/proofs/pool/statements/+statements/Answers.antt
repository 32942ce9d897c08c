use Rattle.std.proofs.Common.{[], ◌++◌, List, Option, Some, None, sym, refl, ap, ◌∙◌}
use Rattle.std.specs.List.{flat_map}
use Rattle.wap_grammar.specs.declared.program.program.Id.{Id}
use Rattle.wap_grammar.specs.declared.program.expression.Expr.{Expr}
use Rattle.wap_grammar.specs.declared.program.statement.Stmt.{Stmt}
use Rattle.wap_grammar.specs.declared.program.statement.Stmt.TheVariants as stmt
use Rattle.wap_meaning.specs.coding.Needs.{Need, expr_needs, optional_needs, declared_needs}
use Rattle.wap_meaning.specs.coding.Needs.{stmt_needs}
use Rattle.wap_meaning.proofs.NeedsLemmas.TreeNeeds.{by_statement, of_block}
use Rattle.wap_codegen.proofs.PoolLemmas.Pooling.{pools_none, pools_same, pools_both}
use Rattle.wap_codegen.proofs.PoolLemmas.Pooling.{leaves_more, leaves_none}
use Rattle.std.proofs.lemmas.Result.{on_ok_weaker}
use Rattle.wap_codegen.proofs.pool.statements.+statements.Goals as goal

pub add_statement-returns-in-Empty : goal.add_statement-returns-in-Empty
add_statement-returns-in-Empty t c =
    pools_same (sym (ap stmt_needs c.in-Empty.is ∙ by_statement _ stmt.rolls-Empty))
    (pools_none _ _ refl)

pub add_statement-returns-in-Break : goal.add_statement-returns-in-Break
add_statement-returns-in-Break t c =
    pools_same (sym (ap stmt_needs c.in-Break.is ∙ by_statement _ (stmt.rolls-Break _)))
    (pools_none _ _ refl)

pub add_statement-returns-in-Continue : goal.add_statement-returns-in-Continue
add_statement-returns-in-Continue t c =
    pools_same (sym (ap stmt_needs c.in-Continue.is ∙ by_statement _ (stmt.rolls-Continue _)))
    (pools_none _ _ refl)

pub add_statement-returns-in-Expr : goal.add_statement-returns-in-Expr
add_statement-returns-in-Expr t c =
    on_ok_weaker _ (pools_same (sym (ap stmt_needs c.in-Expr.is
    ∙ by_statement _ (stmt.rolls-Expr c.in-Expr.value)))) c.add_expression.ensures

pub add_statement-returns-in-Block : goal.add_statement-returns-in-Block
add_statement-returns-in-Block t c =
    on_ok_weaker _ (pools_same (ap (λ (ss : List Stmt). flat_map stmt_needs ss) c.as_slice.ensures
    ∙ (sym (ap stmt_needs c.in-Block.is ∙ of_block _)))) c.add_statements.ensures

pub add_statement-returns-in-Vars : goal.add_statement-returns-in-Vars
add_statement-returns-in-Vars t c =
    on_ok_weaker _ (pools_same (ap (λ (pairs : List
    (Id × Option Expr)). flat_map declared_needs pairs) c.as_slice-in-Vars.ensures
    ∙ (sym (ap stmt_needs c.in-Vars.is ∙ by_statement _ (stmt.rolls-Vars _)))))
    c.add_declarations.ensures

pub add_statement-returns-in-None : goal.add_statement-returns-in-None
add_statement-returns-in-None t c =
    pools_same (ap (λ (s : Stmt). expr_needs c.in-If.condition ++
    (stmt_needs s ++ [])) c.get.ensures ∙ sym (ap stmt_needs (c.in-If.is
    ∙ ap (λ (other : Option Stmt). stmt.If c.in-If.condition c.in-If.body other) c.in-None.is)
    ∙ by_statement _ (stmt.rolls-If _ _ None))) (pools_both c.in_ok-add_expression-in-If.ensures
    (pools_both c.in_ok-add_statement-in-If.ensures (pools_none _ _ refl)))

pub add_statement-returns-in-Some : goal.add_statement-returns-in-Some
add_statement-returns-in-Some t c =
    on_ok_weaker _ (pools_same (ap (λ (s : Stmt). expr_needs c.in-If.condition ++
    (stmt_needs s ++ stmt_needs c.get-in-Some.result.now)) c.get.ensures
    ∙ ap (λ (s : Stmt). expr_needs c.in-If.condition ++
    (stmt_needs c.in-If.body ++ stmt_needs s)) c.get-in-Some.ensures
    ∙ sym (ap stmt_needs (c.in-If.is
    ∙ ap (λ (other : Option Stmt). stmt.If c.in-If.condition c.in-If.body other) c.in-Some.is)
    ∙ by_statement _ (stmt.rolls-If _ _ (Some _))))) (on_ok_weaker _
    (pools_both c.in_ok-add_expression-in-If.ensures)
    (on_ok_weaker _ (pools_both c.in_ok-add_statement-in-If.ensures)
    c.add_statement-in-Some.ensures))

pub add_statement-returns-in_ok-add_expression-in-While :
    goal.add_statement-returns-in_ok-add_expression-in-While
add_statement-returns-in_ok-add_expression-in-While t c =
    on_ok_weaker _ (pools_same (ap (λ (s : Stmt). expr_needs c.in-While.condition ++ stmt_needs s)
    c.get-in-While.ensures ∙ (sym (ap stmt_needs c.in-While.is
    ∙ by_statement _ (stmt.rolls-While _ _))))) (on_ok_weaker _
    (pools_both c.in_ok-add_expression-in-While.ensures)
    c.add_statement-in-While.ensures)

pub add_statement-returns-in_ok-add_optional-in-For-2 :
    goal.add_statement-returns-in_ok-add_optional-in-For-2
add_statement-returns-in_ok-add_optional-in-For-2 t c =
    let rest : List Need = optional_needs c.in-For.condition
    ++ (optional_needs c.in-For.update ++ stmt_needs c.get-in-For-2.result.now) in
    on_ok_weaker _
    (pools_same (ap (λ (s : Stmt). stmt_needs s ++ rest) c.get-in-For.ensures
    ∙ ap (λ (s : Stmt). stmt_needs c.in-For.first ++ (optional_needs c.in-For.condition
    ++ (optional_needs c.in-For.update ++ stmt_needs s))) c.get-in-For-2.ensures
    ∙ sym (ap stmt_needs c.in-For.is ∙ by_statement _ (stmt.rolls-For _ _ _ _))))
    (on_ok_weaker _ (pools_both c.in_ok-add_statement-in-For.ensures)
    (on_ok_weaker _ (pools_both c.in_ok-add_optional-in-For.ensures)
    (on_ok_weaker _ (pools_both c.in_ok-add_optional-in-For-2.ensures)
    c.add_statement-in-For-2.ensures)))

pub add_statement-returns-in-Return : goal.add_statement-returns-in-Return
add_statement-returns-in-Return t c =
    on_ok_weaker _ (pools_same (sym (ap stmt_needs c.in-Return.is
    ∙ by_statement _ (stmt.rolls-Return c.in-Return.value)))) c.add_optional-in-Return.ensures

pub add_statements-loop-statement-preserved : goal.add_statements-loop-statement-preserved
add_statements-loop-statement-preserved t c =
    leaves_more _ _ _ _ _ _ _ c.loop-statement-test.true c.statement-item.is
    c.loop-statement.invariant c.in_ok-add_statement.ensures

pub add_statements-returns : goal.add_statements-returns
add_statements-returns t c =
    leaves_none _ _ _ _ _ c.loop-statement-test.false c.loop-statement.invariant
