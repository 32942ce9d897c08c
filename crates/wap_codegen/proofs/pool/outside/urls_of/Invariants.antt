use Rattle.std.proofs.Common.{◌≡◌, [], map, drop}
use Rattle.wap_meaning.specs.Names.{url_in}
use Rattle.wap_codegen.specs.pool.inside.Declaring.{with_urls}
use Rattle.wap_codegen.proofs.pool.outside.urls_of.Given as goal

-- with the URLs of the rest all are there
abbrev pub invariant-loop-pragma : goal.invariant-loop-pragma
invariant-loop-pragma l =
    with_urls l.urls.entries (map url_in (drop l.pragma-index l.uses))
    ≡ with_urls [] (map url_in l.uses)
