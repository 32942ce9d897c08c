use Rattle.std.proofs.Common.{subst, Result}
use Rattle.wap_base.specs.Outcome.{Meets}
use Rattle.wap_unit.specs.declared.unit.Unit.{Unit}
use Rattle.wap_unit.specs.declared.fault.UnitFault.{UnitFault}
use Rattle.wap_unit.specs.declared.fault.UnitFault.TheVariants.{NoMemory}
use Rattle.wap_unit.proofs.UnitLaws.{are_bytes, found_is, refused_is, unit_again, unit_fails}
use Rattle.wap_unit.proofs.reading.decode.Goals as goal

pub returns-clause-found : goal.returns-clause-found
returns-clause-found c =
    found_is c.args.bytes.now c.read_unit.result
    (are_bytes c.args.bytes.now (λ i. (c.type_inv.bytes i).fits)) c.read_unit.ensures

pub returns-clause-only : goal.returns-clause-only
returns-clause-only c =
    λ unit is. subst (λ (r : Result Unit UnitFault). Meets NoMemory (λ u. u) c.read_unit.result r)
    (unit_again c.args.bytes.now unit is) c.read_unit.ensures

pub returns-clause-refused : goal.returns-clause-refused
returns-clause-refused c = refused_is c.args.bytes.now c.read_unit.result c.read_unit.ensures

pub returns-clause-first : goal.returns-clause-first
returns-clause-first c =
    λ fault is. subst (λ (r : Result Unit UnitFault). Meets NoMemory (λ u. u) c.read_unit.result r)
    (unit_fails c.args.bytes.now fault is) c.read_unit.ensures
