use Rattle.std.proofs.Common.{List, Option, sym, refl, subst}
use Rattle.std.specs.List.{AllByRecursion}
use Rattle.wap_base.specs.declared.charset.Charset.{Charset}
use Rattle.wap_unit.specs.declared.unit.Constant.{Constant}
use Rattle.wap_unit.proofs.SpellingLaws.{unit_fits}
use Rattle.wap_verify.specs.Faults.{pragma}
use Rattle.wap_verify.specs.Kept.{IsReadable}
use Rattle.wap_verify.proofs.Verifying.{all_readable}
use Rattle.wap_verify.proofs.verified.examine.Goals as goal

pub returns-in-Some-clause-fault : goal.returns-in-Some-clause-fault
returns-in-Some-clause-fault c = λ other. pragma c.in-Some.index (sym c.in-Some.ensures) refl

pub rooms-requires-clause-few : goal.rooms-requires-clause-few
rooms-requires-clause-few c = (unit_fits c.requires.0 c.args.unit.now c.requires.1).functions.few

pub rooms-requires-clause-small : goal.rooms-requires-clause-small
rooms-requires-clause-small c = (unit_fits c.requires.0 c.args.unit.now c.requires.1).functions.each

pub texts-requires : goal.texts-requires
texts-requires c =
    subst (λ (l : List Constant). AllByRecursion (IsReadable c.of_number.result) l)
    (sym c.as_slice.ensures)
    (subst (λ (o : Option Charset). AllByRecursion (IsReadable o) c.args.unit.now.constants)
    (sym c.of_number.ensures) (all_readable c.requires.0 c.args.unit.now c.requires.1))
