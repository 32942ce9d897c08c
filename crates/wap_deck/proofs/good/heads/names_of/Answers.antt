use Rattle.std.proofs.Common.{◌∙◌, ◌∷◌, sym, refl}
use Rattle.wap_tokens.specs.markup.Codes.{has_attributes}
use Rattle.wap_deck.specs.good.inside.Nodes.{attr_at}
use Rattle.wap_deck.proofs.GoodLemmas.Ending.{behind_all, list_leaves, no_list_leaves}
use Rattle.wap_deck.proofs.GoodLemmas.HeadLaw.{head_lacks, bare_lacks}
use Rattle.wap_deck.proofs.good.heads.names_of.Goals as goal

pub returns-then-has_attributes-clause-names : goal.returns-then-has_attributes-clause-names
returns-then-has_attributes-clause-names c =
    head_lacks (c.args.mark ∷ c.args.bytes.now) c.args.mark c.args.bytes.now c.names_in.result.0
    refl (sym c.has_attributes.ensures ∙ c.if-has_attributes.true) c.names_in.ensures.names

pub returns-then-has_attributes-clause-exact : goal.returns-then-has_attributes-clause-exact
returns-then-has_attributes-clause-exact c = λ table.
    list_leaves (has_attributes c.args.mark)
    (attr_at table) c.args.bytes.now c.names_in.result.1.now
    (sym c.has_attributes.ensures ∙ c.if-has_attributes.true) (c.names_in.ensures.exact table)

pub returns-else-has_attributes-clause-names : goal.returns-else-has_attributes-clause-names
returns-else-has_attributes-clause-names c = λ name without.
    bare_lacks (c.args.mark ∷ c.args.bytes.now) c.args.mark c.args.bytes.now refl
    (sym c.has_attributes.ensures ∙ c.if-has_attributes.false) name

pub returns-else-has_attributes-clause-exact : goal.returns-else-has_attributes-clause-exact
returns-else-has_attributes-clause-exact c = λ table.
    no_list_leaves (has_attributes c.args.mark) (attr_at table) c.args.bytes.now
    (sym c.has_attributes.ensures ∙ c.if-has_attributes.false)

pub returns-else-has_attributes-clause-behind : goal.returns-else-has_attributes-clause-behind
returns-else-has_attributes-clause-behind c = behind_all c.args.bytes.now
