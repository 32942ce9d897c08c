use Rattle.std.proofs.Common.{◌∙◌, sym}
use Rattle.wap_tokens.specs.markup.Codes.{has_attributes}
use Rattle.wap_deck.specs.good.inside.Nodes.{attr_at}
use Rattle.wap_deck.proofs.GoodLemmas.Ending.{list_leaves, no_list_leaves}
use Rattle.wap_deck.proofs.good.skip.after_head.Goals as goal

pub returns-then-has_attributes-clause-exact : goal.returns-then-has_attributes-clause-exact
returns-then-has_attributes-clause-exact c = λ table.
    list_leaves (has_attributes c.args.mark)
    (attr_at table) c.args.bytes.now c.after_attrs.result.now
    (sym c.has_attributes.ensures ∙ c.if-has_attributes.true) (c.after_attrs.ensures.exact table)

pub returns-else-has_attributes-clause-exact : goal.returns-else-has_attributes-clause-exact
returns-else-has_attributes-clause-exact c = λ table.
    no_list_leaves (has_attributes c.args.mark) (attr_at table) c.args.bytes.now
    (sym c.has_attributes.ensures ∙ c.if-has_attributes.false)
