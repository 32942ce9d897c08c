use Rattle.wap_value.specs.declared.operator.BinOp.{BinOp}
use Rattle.wap_grammar.specs.declared.program.expression.Expr.{Expr}
use Rattle.wap_meaning.specs.coding.Needs.{expr_needs}
use Rattle.wap_codegen.specs.pool.inside.Leaves.{Leaves}
use Rattle.wap_codegen.proofs.pool.expressions.+expressions.Given as goal

-- those of so many arguments are added
abbrev pub invariant-add_arguments-loop-argument : goal.invariant-add_arguments-loop-argument
invariant-add_arguments-loop-argument l =
    Leaves expr_needs l.arguments l.argument-index l.initial.numbering l.numbering

-- those of so many operands are added
abbrev pub invariant-add_operands-loop-operand : goal.invariant-add_operands-loop-operand
invariant-add_operands-loop-operand l =
    Leaves (λ (operand : BinOp × Expr). expr_needs operand.1) l.operands l.operand-index
    l.initial.numbering l.numbering
