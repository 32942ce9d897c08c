use Rattle.std.proofs.Common.{◌∙◌, map, sym}
use Rattle.std.proofs.lemmas.List.{at_drop_all}
use Rattle.wap_meaning.specs.Names.{url_in}
use Rattle.wap_codegen.specs.pool.inside.Declaring.{with_urls}
use Rattle.wap_codegen.proofs.PoolLemmas.Declared.{urls_more}
use Rattle.wap_codegen.proofs.pool.outside.urls_of.Goals as goal

pub loop-pragma-preserved : goal.loop-pragma-preserved
loop-pragma-preserved c =
    urls_more c.args.uses.now c.loop-pragma.pragma-index c.pragma-item.result
    c.loop-pragma.urls.entries c.add_url.new.urls.entries c.loop-pragma-test.true c.pragma-item.is
    c.in_ok-add_url.ensures
    ∙ c.loop-pragma.invariant

pub returns : goal.returns
returns c =
    sym (at_drop_all (λ us. with_urls c.loop-pragma.urls.entries (map url_in us)) c.args.uses.now
    c.loop-pragma.pragma-index c.loop-pragma-test.false)
    ∙ c.loop-pragma.invariant
