use Rattle.std.proofs.Common.{◌∙◌}
use Rattle.wap_tokens.specs.markup.Tables.{name_rows}
use Rattle.wap_deck.proofs.GoodLemmas.Named.{by_bytes}
use Rattle.wap_deck.proofs.good.attrs.attr_named.Goals as goal

pub returns : goal.returns
unfolding name_rows
returns c = c.attr_beside.ensures ∙ by_bytes c.args.name.now
