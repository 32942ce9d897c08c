use Rattle.wap_unit.proofs.UnitLaws.{read_or_refused}
use Rattle.wap_unit.proofs.laws.what_is_no_unit_has_a_fault.Goals as goal

pub returns : goal.returns
returns c = read_or_refused
