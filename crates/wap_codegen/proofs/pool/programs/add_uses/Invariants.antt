use Rattle.wap_codegen.specs.pool.inside.Pools.{kept_needs}
use Rattle.wap_codegen.specs.pool.inside.Leaves.{Leaves}
use Rattle.wap_codegen.proofs.pool.programs.add_uses.Given as goal

-- those of so many pragmas are added
abbrev pub invariant-loop-pragma : goal.invariant-loop-pragma
invariant-loop-pragma l =
    Leaves kept_needs l.uses l.pragma-index l.initial.numbering l.numbering
