use Rattle.std.proofs.Common.{◌∙◌, sym}
use Rattle.wap_tokens.specs.markup.Tables.{name_rows}
use Rattle.wap_tokens.proofs.AttributeTable.{attr_named-bytes}
use Rattle.wap_tokens.proofs.attrs.attr_named.Goals as goal

pub returns : goal.returns
unfolding name_rows
returns c =
    c.attr_beside.ensures ∙ attr_named-bytes c.as_str.result.now c.args.name.now
    c.as_str.ensures.bytes (sym c.as_str.ensures.characters)
