use Rattle.wap_meaning.specs.coding.Coded.{Exits}
use Rattle.wap_meaning.specs.coding.Statements.{declared_code}
use Rattle.wap_codegen.specs.emission.inside.Operands.{Leaves}
use Rattle.wap_codegen.proofs.emission.statements.add_declarations.Given as goal

-- so many declarations are added
abbrev pub invariant-loop-pair : goal.invariant-loop-pair
invariant-loop-pair l =
    (exits : Exits) → Leaves (declared_code l.numbering) exits l.pairs l.pair-index
    l.initial.forms.items l.forms.items
