use Rattle.std.proofs.Common.{sym, ap, ◌∙◌}
use Rattle.wap_unit.specs.declared.row.OpName.TheVariants as op
use Rattle.wap_meaning.specs.coding.Coded.{◌⨾◌, plain}
use Rattle.wap_meaning.specs.coding.Expressions.{expr_code, store_code}
use Rattle.wap_codegen.proofs.EmissionLemmas.StatementParts.{declared_none, declared_some}
use Rattle.wap_codegen.proofs.EmissionLemmas.Chaining.{extends_both, extends_same}
use Rattle.std.proofs.lemmas.Result.{on_ok_weaker}
use Rattle.wap_codegen.proofs.emission.statements.add_declaration.Goals as goal

pub returns-in_ok-add_expression-in-Some : goal.returns-in_ok-add_expression-in-Some
returns-in_ok-add_expression-in-Some c =
    on_ok_weaker _ (extends_same (ap (λ place. expr_code c.args.numbering.now c.in-Some.value
    ⨾ store_code place) c.variable-place.ensures
    ∙ sym (declared_some c.args.numbering.now c.args.pair.now c.in-Some.value c.in-Some.is)))
    (on_ok_weaker _ (extends_both c.in_ok-add_expression-in-Some.ensures) c.add_with.ensures)

pub returns-in_ok-add_plain-in-None : goal.returns-in_ok-add_plain-in-None
returns-in_ok-add_plain-in-None c =
    on_ok_weaker _ (extends_same (ap (λ place. plain op.ConstEs ⨾ store_code place)
    c.variable-place.ensures ∙ sym (declared_none c.args.numbering.now c.args.pair.now
    c.in-None.is))) (on_ok_weaker _ (extends_both c.in_ok-add_plain-in-None.ensures)
    c.add_with-in-None.ensures)
