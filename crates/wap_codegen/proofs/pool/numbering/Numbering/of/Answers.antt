-- of
use Rattle.std.proofs.Common.{List, ap, ◌∙◌}
use Rattle.std.specs.List.{flat_map}
use Rattle.wap_grammar.specs.declared.program.expression.Literal.{Literal}
use Rattle.wap_meaning.specs.coding.Constants.{pooled}
use Rattle.wap_meaning.specs.coding.Needs.{literals_of}
use Rattle.wap_codegen.specs.pool.inside.Pools.{pooled_needs}
use Rattle.wap_codegen.proofs.PoolLemmas.Needed.{all_pooled}
use Rattle.wap_codegen.proofs.pool.numbering.Numbering.of.Goals as goal

pub returns-clause-pool : goal.returns-clause-pool
returns-clause-pool c =
    c.in_ok-add_constants.ensures.pool
    ∙ ap (λ (pool : List Literal). pooled pool
    (flat_map (literals_of c.in_ok-numbering.numbering.names) (pooled_needs c.args.program.now)))
    c.in_ok-numbering.ensures.pool
    ∙ all_pooled c.args.program.now c.in_ok-numbering.numbering.names
    c.in_ok-numbering.ensures.names
