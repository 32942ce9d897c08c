use Rattle.wap_meaning.specs.coding.Coded.{Exits}
use Rattle.wap_meaning.specs.coding.Expressions.{expr_code}
use Rattle.wap_codegen.specs.emission.inside.Operands.{Leaves, LeavesOperands}
use Rattle.wap_codegen.proofs.emission.expressions.+expressions.Given as goal

-- so many arguments are added
abbrev pub invariant-add_arguments-loop-argument : goal.invariant-add_arguments-loop-argument
invariant-add_arguments-loop-argument l =
    (exits : Exits) → Leaves (expr_code l.numbering) exits l.arguments l.argument-index
    l.initial.forms.items l.forms.items

-- so many operands are added
abbrev pub invariant-add_operands-loop-operand : goal.invariant-add_operands-loop-operand
invariant-add_operands-loop-operand l =
    LeavesOperands l.numbering l.operands l.operand-index l.initial.forms.items l.forms.items
