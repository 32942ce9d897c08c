use Rattle.std.proofs.Common.{ap, map, ◌∙◌}
use Rattle.wap_meaning.specs.coding.Constants.{Numbers, with_literal}
use Rattle.wap_codegen.specs.contracts.pool.content.ContentPartialEq.TheImpl.{eq-value}
use Rattle.wap_codegen.specs.pool.inside.Contents.{literal_of}
use Rattle.wap_codegen.proofs.PoolLemmas.Numbered.{added_to, same_content}
use Rattle.wap_codegen.proofs.pool.numbering.Numbering.add_content.Goals as goal

pub returns-clause-pool : goal.returns-clause-pool
returns-clause-pool c =
    ap (map literal_of) c.in_ok-insert.ensures.keys
    ∙ added_to eq-value.it same_content c.args.content c.self.inside.pool.keys
    ∙ ap (λ (numbers : Numbers). with_literal numbers.pool (literal_of c.args.content))
    c.self.view_is
