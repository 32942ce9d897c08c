use Rattle.std.proofs.Common.{◌≡◌, drop, find}
use Rattle.std.specs.Prelude.{not}
use Rattle.std.specs.List.{flat_map}
use Rattle.wap_unit.specs.Strings.{is_string}
use Rattle.wap_verify.specs.Sound.{indexes, stray_pragma}
use Rattle.wap_verify.proofs.pragmas.stray_pragma.Given as goal

-- what is left has what all have
abbrev pub invariant-loop-pragma : goal.invariant-loop-pragma
invariant-loop-pragma l =
    find (λ index. not (is_string l.unit index))
    (flat_map indexes (drop l.pragma-index l.pragma-items))
    ≡ stray_pragma l.unit
