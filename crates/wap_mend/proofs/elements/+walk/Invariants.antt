use Rattle.std.proofs.Common.{◌*◌, ◌+◌, take}
use Rattle.wap_mend.specs.inside.Frames.{given_items, Puts}
use Rattle.wap_mend.proofs.elements.+walk.Given as goal

abbrev pub decreases-put_items : goal.decreases-put_items
decreases-put_items l = 8 * l.levels + 8

abbrev pub decreases-put_item : goal.decreases-put_item
decreases-put_item l = 8 * l.levels + 7

abbrev pub decreases-put_node : goal.decreases-put_node
decreases-put_node l = 8 * l.levels + 6

abbrev pub decreases-put_paragraph : goal.decreases-put_paragraph
decreases-put_paragraph l = 8 * l.levels + 5

abbrev pub decreases-put_element : goal.decreases-put_element
decreases-put_element l = 8 * l.levels + 5

abbrev pub decreases-made_with_name : goal.decreases-made_with_name
decreases-made_with_name l = 8 * l.levels + 4

abbrev pub decreases-made : goal.decreases-made
decreases-made l = 8 * l.levels + 3

-- the items so far were put
abbrev pub invariant-put_items-loop-number : goal.invariant-put_items-loop-number
invariant-put_items-loop-number l =
    Puts l.initial.names l.names l.initial.notes.changes l.notes.changes l.initial.frame l.frame
    (given_items l.levels (take l.number l.items))
