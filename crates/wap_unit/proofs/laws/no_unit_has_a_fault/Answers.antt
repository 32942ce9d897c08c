use Rattle.std.proofs.Common.{sym, ◌∙◌}
use Rattle.wap_unit.proofs.UnitLaws.{unit_again, unit_fails}
use Rattle.wap_unit.proofs.laws.no_unit_has_a_fault.Goals as goal

pub returns : goal.returns
returns c =
    λ bytes unit fault is refused.
    cc (sym (unit_again bytes unit is) ∙ unit_fails bytes fault refused)
