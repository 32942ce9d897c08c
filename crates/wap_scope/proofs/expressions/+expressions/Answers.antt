use Rattle.std.proofs.Common.{rules}
use Rattle.wap_scope.specs.inside.Globals.{scope_by}
use Rattle.wap_scope.proofs.ExpressionParts.{literal_parts, variable_parts, step_parts}
use Rattle.wap_scope.proofs.ExpressionParts.{assignment_parts, unary_parts, chain_parts}
use Rattle.wap_scope.proofs.ExpressionParts.{choice_parts, local_parts, external_parts}
use Rattle.wap_scope.proofs.ExpressionParts.{library_parts}
use Rattle.wap_scope.proofs.expressions.+expressions.Goals as goal

pub judge_expression-returns-in-Lit : goal.judge_expression-returns-in-Lit
judge_expression-returns-in-Lit t c =
    literal_parts (scope_by c.args.globals.now) c.args.known.now c.args.expression.now
    c.in-Lit.field-0 c.in-Lit.is

pub judge_expression-returns-in-Var : goal.judge_expression-returns-in-Var
judge_expression-returns-in-Var t c =
    rw (variable_parts (scope_by c.args.globals.now) c.args.known.now c.args.expression.now
    c.in-Var.variable c.in-Var.is) c.judge_variable.ensures

pub judge_expression-returns-in-Step : goal.judge_expression-returns-in-Step
judge_expression-returns-in-Step t c =
    rw (step_parts (scope_by c.args.globals.now) c.args.known.now c.args.expression.now
    c.in-Step.id c.in-Step.up c.in-Step.prefix c.in-Step.is) c.judge_variable-in-Step.ensures

pub judge_expression-returns-in-Unary : goal.judge_expression-returns-in-Unary
judge_expression-returns-in-Unary t c =
    rw (unary_parts (scope_by c.args.globals.now) c.args.known.now c.args.expression.now
    c.in-Unary.field-0 c.in-Unary.operand c.in-Unary.is) (search rules)

pub judge_expression-returns-in_err-judge_variable-in-Assign :
    goal.judge_expression-returns-in_err-judge_variable-in-Assign
judge_expression-returns-in_err-judge_variable-in-Assign t c =
    rw (assignment_parts (scope_by c.args.globals.now) c.args.known.now c.args.expression.now
    c.in-Assign.variable c.in-Assign.field-1 c.in-Assign.value c.in-Assign.is) (search rules)

pub judge_expression-returns-in_ok-judge_variable-in-Assign :
    goal.judge_expression-returns-in_ok-judge_variable-in-Assign
judge_expression-returns-in_ok-judge_variable-in-Assign t c =
    rw (assignment_parts (scope_by c.args.globals.now) c.args.known.now c.args.expression.now
    c.in-Assign.variable c.in-Assign.field-1 c.in-Assign.value c.in-Assign.is) (search rules)

pub judge_expression-returns-in_err-judge_expression-in-Chain :
    goal.judge_expression-returns-in_err-judge_expression-in-Chain
judge_expression-returns-in_err-judge_expression-in-Chain t c =
    rw (chain_parts (scope_by c.args.globals.now) c.args.known.now c.args.expression.now
    c.in-Chain.first c.in-Chain.operands c.in-Chain.is) (search rules)

pub judge_expression-returns-in_ok-judge_expression-in-Chain :
    goal.judge_expression-returns-in_ok-judge_expression-in-Chain
judge_expression-returns-in_ok-judge_expression-in-Chain t c =
    rw (chain_parts (scope_by c.args.globals.now) c.args.known.now c.args.expression.now
    c.in-Chain.first c.in-Chain.operands c.in-Chain.is) (search rules)

pub judge_expression-returns-in_err-judge_expression-in-Cond :
    goal.judge_expression-returns-in_err-judge_expression-in-Cond
judge_expression-returns-in_err-judge_expression-in-Cond t c =
    rw (choice_parts (scope_by c.args.globals.now) c.args.known.now c.args.expression.now
    c.in-Cond.condition c.in-Cond.yes c.in-Cond.no c.in-Cond.is) (search rules)

pub judge_expression-returns-in_err-judge_expression-in-Cond-2 :
    goal.judge_expression-returns-in_err-judge_expression-in-Cond-2
judge_expression-returns-in_err-judge_expression-in-Cond-2 t c =
    rw (choice_parts (scope_by c.args.globals.now) c.args.known.now c.args.expression.now
    c.in-Cond.condition c.in-Cond.yes c.in-Cond.no c.in-Cond.is) (search rules)

pub judge_expression-returns-in_ok-judge_expression-in-Cond-2 :
    goal.judge_expression-returns-in_ok-judge_expression-in-Cond-2
judge_expression-returns-in_ok-judge_expression-in-Cond-2 t c =
    rw (choice_parts (scope_by c.args.globals.now) c.args.known.now c.args.expression.now
    c.in-Cond.condition c.in-Cond.yes c.in-Cond.no c.in-Cond.is) (search rules)

pub judge_expression-returns-in_err-judge_local-in-Call :
    goal.judge_expression-returns-in_err-judge_local-in-Call
judge_expression-returns-in_err-judge_local-in-Call t c =
    rw (local_parts (scope_by c.args.globals.now) c.args.known.now c.args.expression.now
    c.in-Call.function c.in-Call.arguments c.in-Call.is) (search rules)

pub judge_expression-returns-in_ok-judge_local-in-Call :
    goal.judge_expression-returns-in_ok-judge_local-in-Call
judge_expression-returns-in_ok-judge_local-in-Call t c =
    rw (local_parts (scope_by c.args.globals.now) c.args.known.now c.args.expression.now
    c.in-Call.function c.in-Call.arguments c.in-Call.is) (search rules)

pub judge_expression-returns-in_err-judge_external-in-External :
    goal.judge_expression-returns-in_err-judge_external-in-External
judge_expression-returns-in_err-judge_external-in-External t c =
    rw (external_parts (scope_by c.args.globals.now) c.args.known.now c.args.expression.now
    c.in-External.unit c.in-External.function c.in-External.arguments c.in-External.is) (search
    rules)

pub judge_expression-returns-in_ok-judge_external-in-External :
    goal.judge_expression-returns-in_ok-judge_external-in-External
judge_expression-returns-in_ok-judge_external-in-External t c =
    rw (external_parts (scope_by c.args.globals.now) c.args.known.now c.args.expression.now
    c.in-External.unit c.in-External.function c.in-External.arguments c.in-External.is) (search
    rules)

pub judge_expression-returns-in_err-judge_library-in-Library :
    goal.judge_expression-returns-in_err-judge_library-in-Library
judge_expression-returns-in_err-judge_library-in-Library t c =
    rw (library_parts (scope_by c.args.globals.now) c.args.known.now c.args.expression.now
    c.in-Library.library c.in-Library.function c.in-Library.arguments c.in-Library.is) (search
    rules)

pub judge_expression-returns-in_ok-judge_library-in-Library :
    goal.judge_expression-returns-in_ok-judge_library-in-Library
judge_expression-returns-in_ok-judge_library-in-Library t c =
    rw (library_parts (scope_by c.args.globals.now) c.args.known.now c.args.expression.now
    c.in-Library.library c.in-Library.function c.in-Library.arguments c.in-Library.is) (search
    rules)
