use Rattle.std.proofs.Common.{◌≡◌, [], ◌∷◌, rules, refl, sym, ap, ◌∙◌, to_z, of_z, w32}
use Rattle.wap_grammar.specs.declared.program.expression.Literal.TheVariants as literal
use Rattle.wap_meaning.specs.coding.Needs.{Constant, literal_needs}
use Rattle.wap_codegen.proofs.PoolLemmas.Pooling.{pools_none, pools_same, after_one}
use Rattle.std.proofs.lemmas.Result.{on_ok_weaker}
use Rattle.wap_codegen.proofs.pool.expressions.add_literal.Goals as goal

pub returns-in-Int : goal.returns-in-Int
returns-in-Int c =
    let same : to_z w32 (of_z w32 c.in-Int.integer) ≡ c.in-Int.integer = search rules in
    on_ok_weaker _
    (pools_same (ap (λ integer. Constant (literal.Int integer) ∷ []) same
    ∙ ap literal_needs (sym c.in-Int.is)))
    (after_one (literal.Int (to_z w32 (of_z w32 c.in-Int.integer))) _ _ c.add_integer.result
    c.add_integer.ensures.names c.add_integer.ensures.pool)

pub returns-in-Float : goal.returns-in-Float
returns-in-Float c = pools_same (ap literal_needs (sym c.in-Float.is)) (pools_none _ _ refl)

pub returns-in-Str : goal.returns-in-Str
returns-in-Str c =
    on_ok_weaker _ (pools_same (ap literal_needs (sym c.in-Str.is))) c.add_string.ensures

pub returns-in-Bool : goal.returns-in-Bool
returns-in-Bool c = pools_same (ap literal_needs (sym c.in-Bool.is)) (pools_none _ _ refl)

pub returns-in-Invalid : goal.returns-in-Invalid
returns-in-Invalid c = pools_same (ap literal_needs (sym c.in-Invalid.is)) (pools_none _ _ refl)
