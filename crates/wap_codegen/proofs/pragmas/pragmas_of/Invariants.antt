use Rattle.std.proofs.Common.{◌≡◌, take}
use Rattle.std.specs.List.{flat_map}
use Rattle.wap_meaning.specs.compiled.Units.{pragmas_of, text_place}
use Rattle.wap_codegen.proofs.pragmas.pragmas_of.Given as goal

-- the pragmas of so many are added
abbrev pub invariant-loop-pragma : goal.invariant-loop-pragma
invariant-loop-pragma l = l.pragmas
    ≡ flat_map (pragmas_of (text_place l.numbering.pool)) (take l.pragma-index l.uses)
