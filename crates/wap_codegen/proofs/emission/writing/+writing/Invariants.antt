use Rattle.std.proofs.Common.{◌≡◌, drop}
use Rattle.std.specs.List.{list_any}
use Rattle.wap_value.specs.declared.operator.BinOp.{BinOp}
use Rattle.wap_grammar.specs.declared.program.expression.Expr.{Expr}
use Rattle.wap_meaning.specs.coding.Statements.{writes}
use Rattle.wap_codegen.proofs.emission.writing.+writing.Given as goal

-- one of those that are left does where one of all does
abbrev pub invariant-an_argument_writes-loop-argument :
    goal.invariant-an_argument_writes-loop-argument
invariant-an_argument_writes-loop-argument l =
    list_any (λ (argument : Expr). writes l.numbering.names argument l.variable)
    (drop l.argument-index l.arguments)
    ≡ list_any (λ (argument : Expr). writes l.numbering.names argument l.variable) l.arguments

abbrev pub invariant-an_operand_writes-loop-operand : goal.invariant-an_operand_writes-loop-operand
invariant-an_operand_writes-loop-operand l =
    list_any (λ (operand : BinOp × Expr). writes l.numbering.names operand.1 l.variable)
    (drop l.operand-index l.operands)
    ≡ list_any (λ (operand : BinOp × Expr). writes l.numbering.names operand.1 l.variable)
    l.operands
