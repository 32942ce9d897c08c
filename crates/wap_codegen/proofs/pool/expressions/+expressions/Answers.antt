use Rattle.std.proofs.Common.{[], ◌∷◌, ◌++◌, List, length, sym, refl, ap, ◌∙◌}
use Rattle.std.specs.List.{flat_map}
use Rattle.std.proofs.lemmas.Result.{on_ok_weaker}
use Rattle.wap_value.specs.declared.operator.BinOp.{BinOp}
use Rattle.wap_grammar.specs.declared.program.expression.Expr.{Expr}
use Rattle.wap_grammar.specs.declared.program.expression.Expr.TheVariants as expr
use Rattle.wap_meaning.specs.coding.Needs.{Local, Other, Library, expr_needs}
use Rattle.wap_meaning.proofs.NeedsLemmas.TreeNeeds.{by_form, of_chain, of_local, of_external}
use Rattle.wap_meaning.proofs.NeedsLemmas.TreeNeeds.{of_library}
use Rattle.wap_codegen.proofs.PoolLemmas.Pooling.{pools_none, pools_same, pools_variable}
use Rattle.wap_codegen.proofs.PoolLemmas.Pooling.{pools_both, pools_local, pools_library}
use Rattle.wap_codegen.proofs.PoolLemmas.Pooling.{pools_assign, leaves_more, leaves_none}
use Rattle.wap_codegen.proofs.pool.expressions.+expressions.Goals as goal

pub add_expression-returns-in-Lit : goal.add_expression-returns-in-Lit
add_expression-returns-in-Lit t c =
    on_ok_weaker _ (pools_same (sym (ap expr_needs c.in-Lit.is
    ∙ by_form _ (expr.rolls-Lit _)))) c.add_literal.ensures

pub add_expression-returns-in-Var : goal.add_expression-returns-in-Var
add_expression-returns-in-Var t c =
    pools_same (sym (ap expr_needs c.in-Var.is
    ∙ by_form _ (expr.rolls-Var _))) (pools_variable c.in-Var.field-0 [] _ _ (pools_none _ _ refl))

pub add_expression-returns-in-Step : goal.add_expression-returns-in-Step
add_expression-returns-in-Step t c =
    pools_same (sym (ap expr_needs c.in-Step.is
    ∙ by_form _ (expr.rolls-Step _ _ _))) (pools_variable c.in-Step.id [] _ _ (pools_none _ _ refl))

pub add_expression-returns-in-Assign : goal.add_expression-returns-in-Assign
add_expression-returns-in-Assign t c =
    on_ok_weaker _ (pools_same (sym (ap expr_needs c.in-Assign.is
    ∙ by_form _ (expr.rolls-Assign _ _ c.in-Assign.value)))) (on_ok_weaker _
    (pools_assign c.in-Assign.field-0 c.in-Assign.field-1
    (expr_needs c.in-Assign.value) _ _) (on_ok_weaker _ (pools_same
    (ap expr_needs c.get.ensures)) c.add_expression.ensures))

pub add_expression-returns-in-Unary : goal.add_expression-returns-in-Unary
add_expression-returns-in-Unary t c =
    on_ok_weaker _ (pools_same (ap expr_needs c.get-in-Unary.ensures
    ∙ (sym (ap expr_needs c.in-Unary.is ∙ by_form _ (expr.rolls-Unary _ _)))))
    c.add_expression-in-Unary.ensures

pub add_expression-returns-in_ok-add_expression-in-Chain :
    goal.add_expression-returns-in_ok-add_expression-in-Chain
add_expression-returns-in_ok-add_expression-in-Chain t c =
    on_ok_weaker _ (pools_same (ap (λ (first : Expr). expr_needs first ++ flat_map
    (λ (operand : BinOp × Expr). expr_needs operand.1) c.as_slice.result.now) c.get-in-Chain.ensures
    ∙ ap (λ (operands : List (BinOp × Expr)). expr_needs c.in-Chain.first ++ flat_map
    (λ (operand : BinOp × Expr). expr_needs operand.1) operands) c.as_slice.ensures
    ∙ (sym (ap expr_needs c.in-Chain.is
    ∙ of_chain _ _)))) (on_ok_weaker _ (pools_both c.in_ok-add_expression-in-Chain.ensures)
    c.add_operands.ensures)

pub add_expression-returns-in_ok-add_expression-in-Cond-2 :
    goal.add_expression-returns-in_ok-add_expression-in-Cond-2
add_expression-returns-in_ok-add_expression-in-Cond-2 t c =
    on_ok_weaker _ (pools_same (ap (λ (e : Expr). expr_needs e ++
    (expr_needs c.get-in-Cond-2.result.now ++ expr_needs c.get-in-Cond-3.result.now))
    c.get-in-Cond.ensures ∙ ap (λ (e : Expr). expr_needs c.in-Cond.condition ++
    (expr_needs e ++ expr_needs c.get-in-Cond-3.result.now)) c.get-in-Cond-2.ensures
    ∙ ap (λ (e : Expr). expr_needs c.in-Cond.condition ++
    (expr_needs c.in-Cond.yes ++ expr_needs e)) c.get-in-Cond-3.ensures
    ∙ (sym (ap expr_needs c.in-Cond.is
    ∙ by_form _ (expr.rolls-Cond _ _ _))))) (on_ok_weaker _
    (pools_both c.in_ok-add_expression-in-Cond.ensures)
    (on_ok_weaker _ (pools_both c.in_ok-add_expression-in-Cond-2.ensures)
    c.add_expression-in-Cond-3.ensures))

pub add_expression-returns-in-Call : goal.add_expression-returns-in-Call
add_expression-returns-in-Call t c =
    on_ok_weaker _ (pools_same (ap (λ (es : List Expr). Local c.in-Call.field-0
    (length c.in-Call.arguments) ∷ flat_map expr_needs es) c.as_slice-in-Call.ensures
    ∙ (sym (ap expr_needs c.in-Call.is
    ∙ of_local _ _)))) (on_ok_weaker _ (pools_local c.in-Call.field-0
    (length c.in-Call.arguments) (flat_map expr_needs c.as_slice-in-Call.result.now) _ _)
    c.add_arguments.ensures)

pub add_expression-returns-in_ok-add_other-in-External :
    goal.add_expression-returns-in_ok-add_other-in-External
add_expression-returns-in_ok-add_other-in-External t c =
    on_ok_weaker _ (pools_same (ap (λ (es : List Expr). Other c.in-External.unit
    c.in-External.function ∷ flat_map expr_needs es) c.as_slice-in-External.ensures
    ∙ (sym (ap expr_needs c.in-External.is
    ∙ of_external _ _ _)))) (on_ok_weaker _ (pools_both c.in_ok-add_other-in-External.ensures)
    c.add_arguments-in-External.ensures)

pub add_expression-returns-in-Library : goal.add_expression-returns-in-Library
add_expression-returns-in-Library t c =
    on_ok_weaker _ (pools_same (ap (λ (es : List Expr). Library c.in-Library.field-0
    c.in-Library.field-1 (length c.in-Library.arguments) ∷ flat_map expr_needs es)
    c.as_slice-in-Library.ensures ∙ (sym (ap expr_needs c.in-Library.is
    ∙ of_library _ _ _)))) (on_ok_weaker _ (pools_library c.in-Library.field-0 c.in-Library.field-1
    (length c.in-Library.arguments) (flat_map expr_needs c.as_slice-in-Library.result.now) _ _)
    c.add_arguments-in-Library.ensures)

pub add_arguments-loop-argument-preserved : goal.add_arguments-loop-argument-preserved
add_arguments-loop-argument-preserved t c =
    leaves_more _ _ _ _ _ _ _ c.loop-argument-test.true c.argument-item.is c.loop-argument.invariant
    c.in_ok-add_expression.ensures

pub add_arguments-returns : goal.add_arguments-returns
add_arguments-returns t c =
    leaves_none _ _ _ _ _ c.loop-argument-test.false c.loop-argument.invariant

pub add_operands-loop-operand-preserved : goal.add_operands-loop-operand-preserved
add_operands-loop-operand-preserved t c =
    leaves_more _ _ _ _ _ _ _ c.loop-operand-test.true c.operand-item.is c.loop-operand.invariant
    c.in_ok-add_expression.ensures

pub add_operands-returns : goal.add_operands-returns
add_operands-returns t c = leaves_none _ _ _ _ _ c.loop-operand-test.false c.loop-operand.invariant
