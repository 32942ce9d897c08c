use Rattle.std.proofs.Common.{List, ◌++◌, ap, ◌∙◌}
use Rattle.wap_tokens.specs.declared.markup.document.TheConstants.{LEVEL_LIMIT}
use Rattle.wap_tokens.specs.declared.markup.deck.Node.{Node}
use Rattle.wap_cardrules.specs.Content.{content_of, kids_marks, marks_in}
use Rattle.wap_cards.specs.inside.Elements.{sought_among}
use Rattle.wap_cards.proofs.elements.elements_of.Goals as goal

pub returns : goal.returns
unfolding content_of
returns c =
    c.in_ok-add_elements.ensures
    ∙ ap (λ (found : List Node).
    found ++ sought_among c.args.sought (kids_marks (marks_in LEVEL_LIMIT) c.args.view.now))
    c.new-found.ensures
