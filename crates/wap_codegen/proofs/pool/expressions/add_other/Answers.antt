use Rattle.wap_codegen.proofs.PoolLemmas.Pooling.{after_other}
use Rattle.wap_codegen.proofs.pool.expressions.add_other.Goals as goal

pub returns : goal.returns
returns c =
    after_other c.args.unit.now c.args.function.now _ _ _ c.add_text.result
    c.in_ok-add_url.ensures.names c.in_ok-add_url.ensures.pool c.add_text.ensures.names
    c.add_text.ensures.pool
