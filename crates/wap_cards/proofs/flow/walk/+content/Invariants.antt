use Rattle.std.proofs.Common.{◌≡◌, ◌+◌, ◌*◌}
use Rattle.std.specs.List.{fold}
use Rattle.wap_cardrules.specs.Content.{marks_in}
use Rattle.wap_cards.proofs.Marks.{left_marks}
use Rattle.wap_cards.specs.flow.inside.Walks.{walked}
use Rattle.wap_cards.proofs.flow.walk.+content.Given as goal

abbrev pub decreases-take_content : goal.decreases-take_content
decreases-take_content l = 3 * l.levels

abbrev pub decreases-take_element : goal.decreases-take_element
decreases-take_element l = 3 * l.levels + 1

abbrev pub decreases-take_kids : goal.decreases-take_kids
decreases-take_kids l = 3 * l.levels + 2

-- the children left lead from what was taken to what all of them lead to
abbrev pub invariant-take_kids-loop-child : goal.invariant-take_kids-loop-child
invariant-take_kids-loop-child l =
    fold (walked l.vars) l.walk
    (left_marks (marks_in l.levels) l.may_have_text l.child-iterator)
    ≡ fold (walked l.vars) l.initial.walk
    (left_marks (marks_in l.levels) l.may_have_text l.initial.child-iterator)
