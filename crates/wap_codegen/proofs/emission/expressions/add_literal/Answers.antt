use Rattle.std.proofs.Common.{◌≡◌, rules, sym, ap, ◌∙◌, to_z, of_z, w32}
use Rattle.wap_unit.specs.declared.row.OpName.TheVariants as op
use Rattle.wap_grammar.specs.declared.program.expression.Literal.TheVariants as literal
use Rattle.wap_meaning.specs.coding.Coded.{with_operand, plain}
use Rattle.wap_meaning.specs.coding.Constants.{number_of}
use Rattle.wap_meaning.specs.coding.Expressions.{literal_code}
use Rattle.wap_codegen.proofs.EmissionLemmas.EmittedExpressions.{truth_code}
use Rattle.wap_codegen.proofs.EmissionLemmas.Chaining.{extends_same}
use Rattle.std.proofs.lemmas.Result.{on_ok_weaker}
use Rattle.wap_codegen.proofs.emission.expressions.add_literal.Goals as goal

pub returns-in-Int : goal.returns-in-Int
returns-in-Int c =
    let same : to_z w32 (of_z w32 c.in-Int.integer) ≡ c.in-Int.integer = search rules in
    on_ok_weaker _
    (extends_same (ap (λ number. with_operand op.LoadConst number) (c.integer.ensures
    ∙ ap (λ integer. number_of c.args.numbering.now (literal.Int integer)) same)
    ∙ sym (ap (literal_code c.args.numbering.now) c.in-Int.is))) c.add_with.ensures

pub returns-in-Float : goal.returns-in-Float
returns-in-Float c = rw c.in-Float.is (search rules)

pub returns-in-Str : goal.returns-in-Str
returns-in-Str c = rw c.in-Str.is (search rules)

pub returns-in-Bool : goal.returns-in-Bool
returns-in-Bool c =
    on_ok_weaker _ (extends_same (ap plain c.truth_name.ensures
    ∙ truth_code c.args.numbering.now c.in-Bool.truth
    ∙ sym (ap (literal_code c.args.numbering.now) c.in-Bool.is))) c.add_plain-in-Bool.ensures

pub returns-in-Invalid : goal.returns-in-Invalid
returns-in-Invalid c = rw c.in-Invalid.is (search rules)
