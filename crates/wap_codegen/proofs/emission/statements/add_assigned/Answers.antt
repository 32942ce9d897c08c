use Rattle.std.proofs.Common.{ap, Option}
use Rattle.wap_unit.specs.declared.row.OpName.{OpName}
use Rattle.wap_meaning.specs.coding.Expressions.{expr_code}
use Rattle.wap_codegen.specs.emission.inside.Loops.{named_code}
use Rattle.wap_codegen.proofs.EmissionLemmas.Chaining.{extends_same}
use Rattle.std.proofs.lemmas.Result.{on_ok_weaker}
use Rattle.wap_codegen.proofs.emission.statements.add_assigned.Goals as goal

pub returns-in-None : goal.returns-in-None
returns-in-None c = rw c.in-None.is c.add_taken.ensures

pub returns-in-Some : goal.returns-in-Some
returns-in-Some c =
    rw c.in-Some.is (on_ok_weaker _ (extends_same
    (ap (λ (name : Option OpName). named_code c.args.numbering.now c.args.place name
    c.args.value.now (expr_code c.args.numbering.now c.args.whole.now)) c.change_of-name.ensures))
    c.add_operated.ensures)
