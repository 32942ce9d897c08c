use Rattle.std.proofs.Common.{sym, ap, ◌∙◌, map}
use Rattle.wap_unit.specs.declared.row.OpName.TheVariants as op
use Rattle.wap_grammar.specs.declared.program.expression.Expr.TheVariants as expr
use Rattle.wap_meaning.specs.coding.Coded.{◌⨾◌, all_code, with_operand}
use Rattle.wap_meaning.specs.coding.Expressions.{expr_code, assigned_code, step_code}
use Rattle.wap_codegen.proofs.EmissionLemmas.EmittedExpressions.{call_code, by_form, of_external}
use Rattle.wap_codegen.proofs.EmissionLemmas.EmittedExpressions.{part_same, parts_same, chains_same}
use Rattle.wap_codegen.proofs.EmissionLemmas.Chaining.{adds_same, cond_adds, extends_both}
use Rattle.wap_codegen.proofs.EmissionLemmas.Chaining.{extends_same}
use Rattle.wap_codegen.proofs.EmissionLemmas.Chaining.{after_assignment, after_chain, operands_more}
use Rattle.wap_codegen.proofs.EmissionLemmas.Chaining.{leaves_more, leaves_none, operand_adds}
use Rattle.std.proofs.lemmas.Result.{on_ok_weaker}
use Rattle.wap_codegen.proofs.emission.expressions.+expressions.Goals as goal

pub add_expression-returns-in-Lit : goal.add_expression-returns-in-Lit
add_expression-returns-in-Lit t c =
    on_ok_weaker _ (extends_same (sym (ap (expr_code c.args.numbering.now) c.in-Lit.is
    ∙ by_form _ _ (expr.rolls-Lit _)))) c.add_literal.ensures

pub add_expression-returns-in-Var : goal.add_expression-returns-in-Var
add_expression-returns-in-Var t c =
    on_ok_weaker _ (extends_same (ap (λ place. with_operand op.LoadVar place) c.variable.ensures
    ∙ sym (ap (expr_code c.args.numbering.now) c.in-Var.is
    ∙ by_form _ _ (expr.rolls-Var _)))) c.add_with.ensures

pub add_expression-returns-in_ok-add_expression-in-Assign :
    goal.add_expression-returns-in_ok-add_expression-in-Assign
add_expression-returns-in_ok-add_expression-in-Assign t c =
    on_ok_weaker _ (extends_same (ap (λ place. assigned_code place c.in-Assign.operator
    (expr_code c.args.numbering.now c.in-Assign.value)) c.variable-place.ensures
    ∙ sym (ap (expr_code c.args.numbering.now) c.in-Assign.is
    ∙ by_form _ _ (expr.rolls-Assign _ _ c.in-Assign.value))))
    (after_assignment _ _ _ _ _ _ _ _ c.in_ok-add_before-in-Assign.ensures
    (part_same c.args.numbering.now _ _ _ _ c.get.ensures c.in_ok-add_expression-in-Assign.ensures)
    c.add_after.ensures)

pub add_expression-returns-in-Step : goal.add_expression-returns-in-Step
add_expression-returns-in-Step t c =
    on_ok_weaker _ (extends_same (ap (λ place. step_code place c.in-Step.up c.in-Step.prefix)
    c.variable-in-Step.ensures ∙ sym (ap (expr_code c.args.numbering.now) c.in-Step.is
    ∙ by_form _ _ (expr.rolls-Step _ _ _)))) c.add_step.ensures

pub add_expression-returns-in_ok-add_expression-in-Unary :
    goal.add_expression-returns-in_ok-add_expression-in-Unary
add_expression-returns-in_ok-add_expression-in-Unary t c =
    on_ok_weaker _ (extends_same (sym (ap (expr_code c.args.numbering.now) c.in-Unary.is
    ∙ by_form _ _ (expr.rolls-Unary _ _)))) (on_ok_weaker _ (extends_both
    (part_same c.args.numbering.now _ _ _ _ c.get-in-Unary.ensures
    c.in_ok-add_expression-in-Unary.ensures)) c.add_operator.ensures)

pub add_expression-returns-in_ok-add_expression-in-Chain :
    goal.add_expression-returns-in_ok-add_expression-in-Chain
add_expression-returns-in_ok-add_expression-in-Chain t c =
    on_ok_weaker _ (extends_same (sym (ap (expr_code c.args.numbering.now) c.in-Chain.is
    ∙ by_form _ _ (expr.rolls-Chain _ _)))) (after_chain c.args.numbering.now _
    c.in-Chain.operands _ _ c.add_operands.new.forms.items _
    (part_same c.args.numbering.now _ _ _ _ c.get-in-Chain.ensures
    c.in_ok-add_expression-in-Chain.ensures)
    (chains_same c.args.numbering.now _ _ _ _ c.add_operands.result c.as_slice.ensures
    c.add_operands.ensures))

pub add_expression-returns-in_ok-end-in-Cond : goal.add_expression-returns-in_ok-end-in-Cond
add_expression-returns-in_ok-end-in-Cond t c = λ exits.
    adds_same (sym (ap (expr_code c.args.numbering.now) c.in-Cond.is
    ∙ by_form _ _ (expr.rolls-Cond _ _ _))) (cond_adds
    (part_same c.args.numbering.now _ _ _ _ c.get-in-Cond.ensures
    c.in_ok-add_expression-in-Cond.ensures exits) c.in_ok-test-in-Cond.ensures.added
    c.in_ok-test-in-Cond.ensures.index
    (part_same c.args.numbering.now _ _ _ _ c.get-in-Cond-2.ensures
    c.in_ok-add_expression-in-Cond-2.ensures exits) c.in_ok-over-in-Cond.ensures.added
    c.in_ok-over-in-Cond.ensures.index
    (c.in_ok-other-in-Cond.ensures.added exits) c.in_ok-other-in-Cond.ensures.number
    (part_same c.args.numbering.now _ _ _ _ c.get-in-Cond-3.ensures
    c.in_ok-add_expression-in-Cond-3.ensures exits)
    (c.in_ok-end-in-Cond.ensures.added exits) c.in_ok-end-in-Cond.ensures.number c.close.ensures
    c.close-in-Cond.ensures)

pub add_expression-returns-in_ok-add_arguments-in-Call :
    goal.add_expression-returns-in_ok-add_arguments-in-Call
add_expression-returns-in_ok-add_arguments-in-Call t c =
    on_ok_weaker _ (extends_same (ap (λ place. all_code
    (map (expr_code c.args.numbering.now) c.in-Call.arguments) ⨾ with_operand op.Call place)
    c.function.ensures ∙ sym (ap (expr_code c.args.numbering.now) c.in-Call.is
    ∙ by_form _ _ (expr.rolls-Call _ _)))) (on_ok_weaker _ (extends_both
    (parts_same c.args.numbering.now _ _ _ _ c.as_slice-in-Call.ensures
    c.in_ok-add_arguments-in-Call.ensures)) c.add_with-in-Call.ensures)

pub add_expression-returns-in_ok-name-in-External :
    goal.add_expression-returns-in_ok-name-in-External
add_expression-returns-in_ok-name-in-External t c =
    on_ok_weaker _ (extends_same (call_code (all_code
    (map (expr_code c.args.numbering.now) c.in-External.arguments)) _ _ _ _ _ _
    c.in_ok-url-in-External.ensures c.in_ok-name-in-External.ensures c.len.ensures
    ∙ sym (ap (expr_code c.args.numbering.now) c.in-External.is
    ∙ of_external _ _ _ _))) (on_ok_weaker _ (extends_both
    (parts_same c.args.numbering.now _ _ _ _ c.as_slice-in-External.ensures
    c.in_ok-add_arguments-in-External.ensures)) c.add_op.ensures)

pub add_expression-returns-in_ok-add_arguments-in-Library :
    goal.add_expression-returns-in_ok-add_arguments-in-Library
add_expression-returns-in_ok-add_arguments-in-Library t c =
    on_ok_weaker _ (extends_same (sym (ap (expr_code c.args.numbering.now) c.in-Library.is
    ∙ by_form _ _ (expr.rolls-Library _ _ _)))) (on_ok_weaker _ (extends_both
    (parts_same c.args.numbering.now _ _ _ _ c.as_slice-in-Library.ensures
    c.in_ok-add_arguments-in-Library.ensures)) c.add_library_call.ensures)

pub add_arguments-loop-argument-preserved : goal.add_arguments-loop-argument-preserved
add_arguments-loop-argument-preserved t c = λ exits.
    leaves_more _ _ _ _ _ _ _ _ c.loop-argument-test.true c.argument-item.is
    (c.loop-argument.invariant exits) (c.in_ok-add_expression.ensures exits)

pub add_arguments-returns : goal.add_arguments-returns
add_arguments-returns t c = λ exits.
    leaves_none _ _ _ _ _ _ c.loop-argument-test.false (c.loop-argument.invariant exits)

pub add_operands-loop-operand-preserved : goal.add_operands-loop-operand-preserved
add_operands-loop-operand-preserved t c =
    operands_more _ _ _ _ _ _ _ c.loop-operand-test.true c.operand-item.is c.loop-operand.invariant
    (λ exits. adds_same (sym (c.joint_of-joint.ensures
    (expr_code c.args.numbering.now c.operand-item.result.1)))
    (operand_adds _ _ _ _ _ _ _ c.in_ok-jump.ensures c.in_ok-add_expression.ensures
    c.in_ok-end_operand.ensures exits))
