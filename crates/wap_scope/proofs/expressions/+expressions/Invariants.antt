use Rattle.std.proofs.Common.{◌≡◌, drop}
use Rattle.wap_value.specs.declared.operator.BinOp.{BinOp}
use Rattle.wap_grammar.specs.declared.program.expression.Expr.{Expr}
use Rattle.wap_scope.specs.Names.{refers}
use Rattle.wap_scope.specs.inside.Globals.{scope_by}
use Rattle.wap_scope.specs.inside.Walks.{walked_each}
use Rattle.wap_scope.proofs.expressions.+expressions.Given as goal

-- what is left finds what the whole does
abbrev pub invariant-judge_operands-loop-operand : goal.invariant-judge_operands-loop-operand
invariant-judge_operands-loop-operand l =
    walked_each (scope_by l.globals) (λ (operand : BinOp × Expr). refers operand.1) l.known
    (drop l.operand-index l.operands)
    ≡ walked_each (scope_by l.globals) (λ (operand : BinOp × Expr). refers operand.1) l.known
    l.operands

abbrev pub invariant-judge_arguments-loop-argument : goal.invariant-judge_arguments-loop-argument
invariant-judge_arguments-loop-argument l =
    walked_each (scope_by l.globals) refers l.known (drop l.argument-index l.arguments)
    ≡ walked_each (scope_by l.globals) refers l.known l.arguments
