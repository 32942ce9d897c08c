use Rattle.std.proofs.Common.{refl, sym, ap}
use Rattle.wap_grammar.specs.declared.program.expression.Literal.TheVariants as literal
use Rattle.wap_codegen.specs.pool.inside.Pools.{kept_needs}
use Rattle.wap_codegen.proofs.PoolLemmas.Pooling.{pools_none, pools_one, pools_same, pools_both}
use Rattle.std.proofs.lemmas.Result.{on_ok_weaker}
use Rattle.wap_codegen.proofs.pool.programs.add_use.Goals as goal

pub returns-in-Url : goal.returns-in-Url
returns-in-Url c = pools_same (ap kept_needs (sym c.in-Url.is)) (pools_none _ _ refl)

pub returns-in_ok-add_text-in-Access : goal.returns-in_ok-add_text-in-Access
returns-in_ok-add_text-in-Access c =
    on_ok_weaker _ (pools_same (ap kept_needs (sym c.in-Access.is))) (on_ok_weaker _
    (pools_both c.in_ok-add_text-in-Access.ensures) c.add_text-in-Access.ensures)

pub returns-in_ok-add_text-in-Agent-2 : goal.returns-in_ok-add_text-in-Agent-2
returns-in_ok-add_text-in-Agent-2 c =
    let name = literal.Str c.in-Agent.name in
    let content = literal.Str c.in-Agent.content in
    on_ok_weaker _ (pools_same (ap kept_needs (sym c.in-Agent.is)))
    (on_ok_weaker _
    (pools_both (pools_one name _ _ c.in_ok-add_text-in-Agent.ensures.names
    c.in_ok-add_text-in-Agent.ensures.pool)) (on_ok_weaker _
    (pools_both (pools_one content _ _ c.in_ok-add_text-in-Agent-2.ensures.names
    c.in_ok-add_text-in-Agent-2.ensures.pool)) c.add_text-in-Agent-3.ensures))

pub returns-in-Note : goal.returns-in-Note
returns-in-Note c = pools_same (ap kept_needs (sym c.in-Note.is)) (pools_none _ _ refl)
