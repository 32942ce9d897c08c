use Rattle.std.proofs.Common.{◌≡◌, [], true, false, rules, refl, sym, ap}
use Rattle.wap_grammar.specs.declared.program.expression.Literal.TheVariants as literal
use Rattle.wap_meaning.specs.coding.Needs.{literal_needs}
use Rattle.wap_codegen.proofs.PoolLemmas.Pooling.{pools_none, pools_same, after_one, text_need}
use Rattle.std.proofs.lemmas.Result.{on_ok_weaker}
use Rattle.wap_codegen.proofs.pool.expressions.add_string.Goals as goal

pub returns-then-is_empty : goal.returns-then-is_empty
returns-then-is_empty c =
    let none : c.args.text.now ≡ [] = c.if-is_empty.ensures.0 (search rules) in
    pools_same (sym (ap (λ text. literal_needs (literal.Str text)) none)) (pools_none _ _ refl)

pub returns : goal.returns
returns c =
    on_ok_weaker _ (pools_same (text_need c.args.text.now
    (λ none. let is : false ≡ true = c.if-is_empty.ensures.1 none in absurd (cc is))))
    (after_one (literal.Str c.args.text.now) _ _ c.add_text.result c.add_text.ensures.names
    c.add_text.ensures.pool)
