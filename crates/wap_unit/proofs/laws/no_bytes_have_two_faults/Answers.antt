use Rattle.std.proofs.Common.{sym, ◌∙◌}
use Rattle.wap_unit.proofs.UnitLaws.{err_same, unit_fails}
use Rattle.wap_unit.proofs.laws.no_bytes_have_two_faults.Goals as goal

pub returns : goal.returns
returns c =
    λ bytes one two first second.
    err_same one two (sym (unit_fails bytes one first) ∙ unit_fails bytes two second)
