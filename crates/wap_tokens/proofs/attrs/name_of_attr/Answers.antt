use Rattle.std.proofs.Common.{◌≡◌, ◌∙◌, sym, ap}
use Rattle.std.specs.Str.{chars}
use Rattle.wap_tokens.specs.markup.Tables.{name_rows, name_of_attr}
use Rattle.wap_tokens.proofs.AttributeTable.{chars-name_of_attr}
use Rattle.wap_tokens.proofs.attrs.name_of_attr.Goals as goal

pub returns-clause-name : goal.returns-clause-name
unfolding name_rows name_of_attr
returns-clause-name c = c.name_beside.ensures

pub returns-clause-characters : goal.returns-clause-characters
unfolding name_rows name_of_attr
returns-clause-characters c =
    let is : c.name_beside.result.now ≡ name_of_attr c.args.attr = c.name_beside.ensures in
    ap chars is ∙ chars-name_of_attr c.args.attr ∙ sym is
