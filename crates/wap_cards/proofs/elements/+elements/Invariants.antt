use Rattle.std.proofs.Common.{◌≡◌, ◌+◌, ◌*◌, ◌++◌}
use Rattle.wap_tokens.specs.markup.Good.{rule_of}
use Rattle.wap_cardrules.specs.Content.{marks_in}
use Rattle.wap_cards.specs.inside.Elements.{sought_among}
use Rattle.wap_cards.proofs.Marks.{left_marks}
use Rattle.wap_cards.proofs.elements.+elements.Given as goal

abbrev pub decreases-add_element : goal.decreases-add_element
decreases-add_element l = 2 * l.levels

abbrev pub decreases-add_elements : goal.decreases-add_elements
decreases-add_elements l = 2 * l.levels + 1

-- what was found, and what is to be found among the children left
abbrev pub invariant-add_elements-loop-child : goal.invariant-add_elements-loop-child
invariant-add_elements-loop-child l =
    l.found
    ++ sought_among l.sought
    (left_marks (marks_in l.levels) (rule_of l.view.tag).text l.child-iterator)
    ≡ l.initial.found
    ++ sought_among l.sought
    (left_marks (marks_in l.levels) (rule_of l.view.tag).text l.initial.child-iterator)
