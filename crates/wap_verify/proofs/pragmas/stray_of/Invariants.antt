use Rattle.std.proofs.Common.{◌≡◌, drop, find}
use Rattle.std.specs.Prelude.{not}
use Rattle.wap_unit.specs.Strings.{is_string}
use Rattle.wap_verify.proofs.pragmas.stray_of.Given as goal

-- what is left has what all have
abbrev pub invariant-loop-index : goal.invariant-loop-index
invariant-loop-index l =
    find (λ index. not (is_string l.unit index)) (drop l.index-index l.indexes)
    ≡ find (λ index. not (is_string l.unit index)) l.indexes
