use Rattle.std.proofs.Common.{◌∙◌, sym}
use Rattle.wap_deck.proofs.GoodLemmas.HeadLaw.{marked_all, bare_content, bare_alone}
use Rattle.wap_deck.proofs.good.heads.known_by_mark.Goals as goal

pub returns-then-has_attributes : goal.returns-then-has_attributes
returns-then-has_attributes c = λ rest.
    rw (c.known_with.ensures.names, c.known_with.ensures.head) (marked_all c.args.mark rest)

pub returns-then-has_content : goal.returns-then-has_content
returns-then-has_content c = λ rest.
    rw (c.known_with-then-has_content.ensures.names, c.known_with-then-has_content.ensures.head)
    (bare_content c.args.mark rest (sym c.has_attributes.ensures ∙ c.if-has_attributes.false)
    (sym c.has_content.ensures ∙ c.if-has_content.true))

pub returns : goal.returns
returns c = λ rest.
    rw (c.known_with-2.ensures.names, c.known_with-2.ensures.head)
    (bare_alone c.args.mark rest (sym c.has_attributes.ensures ∙ c.if-has_attributes.false))
