use Rattle.std.proofs.Common.{◌≡◌, [], true, false, rules, sym, ap, ◌∙◌}
use Rattle.wap_unit.specs.declared.row.OpName.TheVariants as op
use Rattle.wap_grammar.specs.declared.program.expression.Literal.TheVariants as literal
use Rattle.wap_meaning.specs.coding.Coded.{with_operand}
use Rattle.wap_meaning.specs.coding.Expressions.{literal_code}
use Rattle.wap_codegen.proofs.EmissionLemmas.EmittedExpressions.{text_code}
use Rattle.wap_codegen.proofs.EmissionLemmas.Chaining.{extends_same}
use Rattle.std.proofs.lemmas.Result.{on_ok_weaker}
use Rattle.wap_codegen.proofs.emission.expressions.add_text.Goals as goal

pub returns-then-is_empty : goal.returns-then-is_empty
returns-then-is_empty c =
    let none : c.args.text.now ≡ [] = c.if-is_empty.ensures.0 (search rules) in
    on_ok_weaker _
    (extends_same (ap (λ text. literal_code c.args.numbering.now (literal.Str text)) (sym none)))
    c.add_plain.ensures

pub returns : goal.returns
returns c =
    on_ok_weaker _
    (extends_same (ap (λ number. with_operand op.LoadConst number) c.in_ok-text.ensures
    ∙ text_code c.args.numbering.now c.args.text.now
    (λ none. let is : false ≡ true = c.if-is_empty.ensures.1 none in absurd (cc is))))
    c.add_with.ensures
