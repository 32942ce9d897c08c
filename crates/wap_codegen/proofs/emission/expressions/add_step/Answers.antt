use Rattle.std.proofs.Common.{ap}
use Rattle.wap_meaning.specs.coding.Coded.{◌⨾◌, with_operand}
use Rattle.wap_meaning.specs.coding.Expressions.{load_code}
use Rattle.wap_codegen.proofs.EmissionLemmas.Chaining.{extends_both, extends_same}
use Rattle.std.proofs.lemmas.Result.{on_ok_weaker}
use Rattle.wap_codegen.proofs.emission.expressions.add_step.Goals as goal

pub returns-then-prefix : goal.returns-then-prefix
returns-then-prefix c =
    rw c.if-prefix.true (on_ok_weaker _ (extends_same (ap (λ name. with_operand name c.args.variable
    ⨾ load_code c.args.variable) c.change_name.ensures)) (on_ok_weaker _
    (extends_both c.in_ok-add_with.ensures) c.add_with-then-prefix.ensures))

pub returns : goal.returns
returns c =
    rw c.if-prefix.false (on_ok_weaker _ (extends_same
    (ap (λ name. load_code c.args.variable ⨾ with_operand name c.args.variable)
    c.change_name-2.ensures)) (on_ok_weaker _
    (extends_both c.in_ok-add_with-2.ensures) c.add_with-3.ensures))
