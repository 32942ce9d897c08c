use Rattle.std.proofs.Common.{refl, sym, ap}
use Rattle.wap_grammar.specs.declared.program.expression.Literal.TheVariants as literal
use Rattle.wap_meaning.specs.needs.Drawn.{text_needs}
use Rattle.wap_codegen.proofs.PoolLemmas.Pooling.{pools_none, pools_same, after_one}
use Rattle.std.proofs.lemmas.Result.{on_ok_weaker}
use Rattle.wap_codegen.proofs.pool.programs.add_text.Goals as goal

pub returns-in-None : goal.returns-in-None
returns-in-None c = pools_same (ap text_needs (sym c.in-None.is)) (pools_none _ _ refl)

pub returns-in-Some : goal.returns-in-Some
returns-in-Some c =
    on_ok_weaker _ (pools_same (ap text_needs (sym c.in-Some.is))) (after_one
    (literal.Str c.in-Some.text) _ _ c.add_text.result c.add_text.ensures.names
    c.add_text.ensures.pool)
