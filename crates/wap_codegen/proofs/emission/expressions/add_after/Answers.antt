use Rattle.std.proofs.Common.{ap}
use Rattle.wap_meaning.specs.coding.Coded.{◌⨾◌, plain}
use Rattle.wap_meaning.specs.coding.Expressions.{store_code, load_code}
use Rattle.wap_codegen.proofs.EmissionLemmas.Chaining.{extends_both, extends_same}
use Rattle.std.proofs.lemmas.Result.{on_ok_weaker}
use Rattle.wap_codegen.proofs.emission.expressions.add_after.Goals as goal

pub returns-in-None : goal.returns-in-None
returns-in-None c = rw c.in-None.is c.add_stored.ensures

pub returns-in_ok-add_plain-in-Some : goal.returns-in_ok-add_plain-in-Some
returns-in_ok-add_plain-in-Some c =
    rw c.in-Some.is (on_ok_weaker _ (extends_same
    (ap (λ name. plain name ⨾ store_code c.args.variable ⨾ load_code c.args.variable)
    c.binary_name.ensures)) (on_ok_weaker _ (extends_both c.in_ok-add_plain-in-Some.ensures)
    c.add_stored-in-Some.ensures))
