use Rattle.std.proofs.Common.{Bool, true, [], ◌++◌, List, Option, sym, refl, ap, ◌∙◌}
use Rattle.std.specs.List.{flat_map}
use Rattle.wap_grammar.specs.declared.program.program.Id.{Id}
use Rattle.wap_grammar.specs.declared.program.expression.Expr.{Expr}
use Rattle.wap_grammar.specs.declared.program.statement.Stmt.{Stmt}
use Rattle.wap_grammar.specs.declared.program.statement.Stmt.TheVariants as stmt
use Rattle.wap_scope.specs.Names.{Mention, refers, refers_if, declares, mentions, names_declared}
use Rattle.wap_scope.proofs.TreeNames.{of_empty, of_value, of_block, of_variables, of_if, of_else}
use Rattle.wap_scope.proofs.TreeNames.{of_while, of_for, of_break, of_continue, of_return}
use Rattle.wap_codegen.proofs.PoolLemmas.Declared.{none_in, none_in_any, declaring_none}
use Rattle.wap_codegen.proofs.PoolLemmas.Declared.{declaring_same, declaring_both, declaring_after}
use Rattle.wap_codegen.proofs.PoolLemmas.Declared.{leaves_all, leaves_more, leaves_none}
use Rattle.std.proofs.lemmas.Result.{on_ok_weaker}
use Rattle.wap_codegen.proofs.pool.variables.+variables.Goals as goal

-- what a statement says, in a loop or not
abbrev says : Bool → Stmt → List Mention
says inside s = mentions s inside

pub add_statement-returns-in-Empty : goal.add_statement-returns-in-Empty
add_statement-returns-in-Empty t c = λ inside.
    declaring_none (mentions c.args.statement.now inside) _ _ (ap names_declared
    (ap (says inside) c.in-Empty.is ∙ of_empty inside)) refl

pub add_statement-returns-in-Expr : goal.add_statement-returns-in-Expr
add_statement-returns-in-Expr t c = λ inside.
    declaring_none (mentions c.args.statement.now inside) _ _ (ap names_declared
    (ap (says inside) c.in-Expr.is ∙ of_value inside c.in-Expr.field-0)
    ∙ none_in c.in-Expr.field-0) refl

pub add_statement-returns-in-Break : goal.add_statement-returns-in-Break
add_statement-returns-in-Break t c = λ inside.
    declaring_none (mentions c.args.statement.now inside) _ _ (ap names_declared
    (ap (says inside) c.in-Break.is ∙ of_break inside c.in-Break.field-0)) refl

pub add_statement-returns-in-Continue : goal.add_statement-returns-in-Continue
add_statement-returns-in-Continue t c = λ inside.
    declaring_none (mentions c.args.statement.now inside) _ _ (ap names_declared
    (ap (says inside) c.in-Continue.is ∙ of_continue inside c.in-Continue.field-0)) refl

pub add_statement-returns-in-Return : goal.add_statement-returns-in-Return
add_statement-returns-in-Return t c = λ inside.
    declaring_none (mentions c.args.statement.now inside) _ _ (ap names_declared
    (ap (says inside) c.in-Return.is ∙ of_return inside c.in-Return.field-0)
    ∙ none_in_any c.in-Return.field-0) refl

pub add_statement-returns-in-Block : goal.add_statement-returns-in-Block
add_statement-returns-in-Block t c = λ inside.
    on_ok_weaker _ (declaring_same (ap (λ (ss : List Stmt). flat_map
    (says inside) ss) c.as_slice.ensures ∙ sym (ap (says inside) c.in-Block.is
    ∙ of_block inside c.in-Block.inner))) (c.add_statements.ensures inside)

pub add_statement-returns-in-Vars : goal.add_statement-returns-in-Vars
add_statement-returns-in-Vars t c = λ inside.
    on_ok_weaker _ (declaring_same (ap (λ (pairs : List
    (Id × Option Expr)). flat_map declares pairs) c.as_slice-in-Vars.ensures
    ∙ sym (ap (says inside) c.in-Vars.is
    ∙ of_variables inside c.in-Vars.pairs))) c.add_declarations.ensures

pub add_statement-returns-in-None : goal.add_statement-returns-in-None
add_statement-returns-in-None t c = λ inside.
    declaring_same (ap (λ (s : Stmt). refers c.in-If.field-0 ++
    (mentions s inside ++ [])) c.get.ensures ∙ sym (ap (says inside) (c.in-If.is
    ∙ ap (λ (other : Option Stmt). stmt.If c.in-If.field-0 c.in-If.body other) c.in-None.is)
    ∙ of_if inside c.in-If.field-0 c.in-If.body)) (declaring_after _
    (none_in c.in-If.field-0) (declaring_both
    (c.in_ok-add_statement-in-If.ensures inside) (declaring_none [] _ _ refl refl)))

pub add_statement-returns-in-Some : goal.add_statement-returns-in-Some
add_statement-returns-in-Some t c = λ inside.
    on_ok_weaker _ (declaring_same (ap (λ (s : Stmt). refers c.in-If.field-0 ++
    (mentions s inside ++ mentions c.get-in-Some.result.now inside)) c.get.ensures
    ∙ ap (λ (s : Stmt). refers c.in-If.field-0 ++
    (mentions c.in-If.body inside ++ mentions s inside)) c.get-in-Some.ensures
    ∙ sym (ap (says inside) (c.in-If.is
    ∙ ap (λ (other : Option Stmt). stmt.If c.in-If.field-0 c.in-If.body other) c.in-Some.is)
    ∙ of_else inside c.in-If.field-0 c.in-If.body c.in-Some.other)))
    (on_ok_weaker _ (declaring_after _ (none_in c.in-If.field-0)) (on_ok_weaker _
    (declaring_both (c.in_ok-add_statement-in-If.ensures inside))
    (c.add_statement-in-Some.ensures inside)))

pub add_statement-returns-in-While : goal.add_statement-returns-in-While
add_statement-returns-in-While t c = λ inside.
    on_ok_weaker _ (declaring_same (ap (λ (s : Stmt). refers c.in-While.field-0 ++ mentions s true)
    c.get-in-While.ensures ∙ sym (ap (says inside) c.in-While.is
    ∙ of_while inside c.in-While.field-0 c.in-While.body))) (on_ok_weaker _
    (declaring_after _ (none_in c.in-While.field-0)) (c.add_statement-in-While.ensures true))

pub add_statement-returns-in_ok-add_statement-in-For :
    goal.add_statement-returns-in_ok-add_statement-in-For
add_statement-returns-in_ok-add_statement-in-For t c = λ inside.
    let rest = refers_if c.in-For.field-1 ++ (refers_if c.in-For.field-2
    ++ mentions c.get-in-For-2.result.now true) in
    on_ok_weaker _
    (declaring_same (ap (λ (s : Stmt). mentions s inside ++ rest) c.get-in-For.ensures
    ∙ ap (λ (s : Stmt). mentions c.in-For.first inside ++ (refers_if c.in-For.field-1
    ++ (refers_if c.in-For.field-2 ++ mentions s true))) c.get-in-For-2.ensures
    ∙ sym (ap (says inside) c.in-For.is
    ∙ of_for inside c.in-For.first c.in-For.field-1 c.in-For.field-2 c.in-For.body)))
    (on_ok_weaker _
    (declaring_both (c.in_ok-add_statement-in-For.ensures inside))
    (on_ok_weaker _ (declaring_after _ (none_in_any c.in-For.field-1))
    (on_ok_weaker _ (declaring_after _ (none_in_any c.in-For.field-2))
    (c.add_statement-in-For-2.ensures true))))

pub add_statements-loop-statement-init : goal.add_statements-loop-statement-init
add_statements-loop-statement-init t c = λ inside.
    leaves_all (says inside) c.args.statements.now c.args.names.now

pub add_statements-loop-statement-preserved : goal.add_statements-loop-statement-preserved
add_statements-loop-statement-preserved t c = λ inside.
    leaves_more _ _ _ _ _ _ _ c.loop-statement-test.true c.statement-item.is
    (c.loop-statement.invariant inside) (c.in_ok-add_statement.ensures inside)

pub add_statements-returns : goal.add_statements-returns
add_statements-returns t c = λ inside.
    leaves_none _ _ _ _ _ c.loop-statement-test.false (c.loop-statement.invariant inside)
