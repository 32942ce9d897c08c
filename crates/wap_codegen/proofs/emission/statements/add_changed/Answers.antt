use Rattle.std.proofs.Common.{cond, sym, ap, ◌∙◌}
use Rattle.wap_meaning.specs.coding.Coded.{◌⨾◌, with_operand}
use Rattle.wap_meaning.specs.coding.Expressions.{expr_code}
use Rattle.wap_meaning.specs.coding.Statements.{dropped_code}
use Rattle.wap_codegen.proofs.EmissionLemmas.Chaining.{extends_both, extends_same}
use Rattle.std.proofs.lemmas.Result.{on_ok_weaker}
use Rattle.wap_codegen.proofs.emission.statements.add_changed.Goals as goal

pub returns-then-writes : goal.returns-then-writes
returns-then-writes c =
    on_ok_weaker _ (extends_same (ap (λ truth. cond truth (dropped_code
    (expr_code c.args.numbering.now c.args.whole.now))
    (expr_code c.args.numbering.now c.args.value.now ⨾ with_operand c.args.name c.args.place))
    (sym c.if-writes.true ∙ c.writes.ensures))) c.add_dropped.ensures

pub returns : goal.returns
returns c =
    on_ok_weaker _ (extends_same (ap (λ truth. cond truth (dropped_code
    (expr_code c.args.numbering.now c.args.whole.now))
    (expr_code c.args.numbering.now c.args.value.now ⨾ with_operand c.args.name c.args.place))
    (sym c.if-writes.false
    ∙ c.writes.ensures))) (on_ok_weaker _
    (extends_both c.in_ok-add_expression.ensures) c.add_with.ensures)
