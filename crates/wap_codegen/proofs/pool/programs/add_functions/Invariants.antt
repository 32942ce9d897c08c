use Rattle.wap_meaning.specs.needs.Drawn.{function_needs}
use Rattle.wap_codegen.specs.pool.inside.Leaves.{Leaves}
use Rattle.wap_codegen.proofs.pool.programs.add_functions.Given as goal

-- those of so many functions are added
abbrev pub invariant-loop-function : goal.invariant-loop-function
invariant-loop-function l =
    Leaves function_needs l.functions l.function-index l.initial.numbering l.numbering
