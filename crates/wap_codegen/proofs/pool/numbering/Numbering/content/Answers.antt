use Rattle.std.proofs.Common.{ap, ap₂, ◌∙◌, unwrap_or}
use Rattle.wap_meaning.specs.coding.Constants.{Numbers, number_of}
use Rattle.wap_codegen.specs.contracts.pool.content.ContentPartialEq.TheImpl.{eq-value}
use Rattle.wap_codegen.specs.pool.inside.Contents.{literal_of}
use Rattle.wap_codegen.proofs.PoolLemmas.Numbered.{found, placed_in, same_content}
use Rattle.wap_codegen.proofs.pool.numbering.Numbering.content.Goals as goal

pub returns : goal.returns
returns c =
    c.unwrap_or.ensures
    ∙ ap₂ unwrap_or c.get_index_of.ensures.index c.len.ensures.len
    ∙ found (eq-value.it c.args.content.now) c.self.inside.pool.keys
    ∙ placed_in eq-value.it same_content c.args.content.now c.self.inside.pool.keys
    ∙ ap (λ (numbers : Numbers). number_of numbers (literal_of c.args.content.now)) c.self.view_is
