use Rattle.std.proofs.Common.{◌∙◌, sym, ap, subst, drop, ℕ}
use Rattle.wap_deck.specs.good.inside.Nodes.{IsContent}
use Rattle.wap_deck.proofs.GoodLemmas.Ending.{behind_place}
use Rattle.wap_deck.proofs.good.heads.head_of.Goals as goal

pub returns-clause-content : goal.returns-clause-content
returns-clause-content c = λ some.
    let bytes = c.args.bytes.now in
    let content = c.args.content.now in
    subst (IsContent bytes) (sym (behind_place content bytes c.requires.behind)
    ∙ ap (λ (n : ℕ). drop n bytes) (sym c.saturating_sub-size.ensures))
    (c.requires.content (sym c.has_content.ensures ∙ c.if-not-has_content.false))
