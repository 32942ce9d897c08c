use Rattle.std.proofs.Common.{◌∙◌, sym}
use Rattle.wap_tokens.specs.markup.Tables.{tag_rows}
use Rattle.wap_tokens.proofs.TagTable.{tag_named-bytes}
use Rattle.wap_tokens.proofs.tags.tag_named.Goals as goal

pub returns : goal.returns
unfolding tag_rows
returns c =
    c.tag_beside.ensures ∙ tag_named-bytes c.as_str.result.now c.args.name.now
    c.as_str.ensures.bytes (sym c.as_str.ensures.characters)
