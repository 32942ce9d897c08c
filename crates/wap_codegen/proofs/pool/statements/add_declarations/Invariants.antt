use Rattle.wap_meaning.specs.coding.Needs.{declared_needs}
use Rattle.wap_codegen.specs.pool.inside.Leaves.{Leaves}
use Rattle.wap_codegen.proofs.pool.statements.add_declarations.Given as goal

-- those of so many declarations are added
abbrev pub invariant-loop-pair : goal.invariant-loop-pair
invariant-loop-pair l =
    Leaves declared_needs l.pairs l.pair-index l.initial.numbering l.numbering
