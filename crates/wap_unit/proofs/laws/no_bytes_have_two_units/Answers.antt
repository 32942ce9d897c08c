use Rattle.std.proofs.Common.{sym, ◌∙◌}
use Rattle.wap_base.proofs.Choices.{ok_same}
use Rattle.wap_unit.proofs.UnitLaws.{unit_again}
use Rattle.wap_unit.proofs.laws.no_bytes_have_two_units.Goals as goal

pub returns : goal.returns
returns c =
    λ bytes one two first second.
    ok_same one two (sym (unit_again bytes one first) ∙ unit_again bytes two second)
