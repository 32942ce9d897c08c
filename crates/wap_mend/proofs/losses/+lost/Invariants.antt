use Rattle.std.proofs.Common.{◌*◌, ◌+◌, take}
use Rattle.wap_mend.specs.inside.Frames.{both, load_lost, given_items, IsSame}
use Rattle.wap_mend.proofs.losses.+lost.Given as goal

abbrev pub decreases-add_items : goal.decreases-add_items
decreases-add_items l = 4 * l.levels + 4

abbrev pub decreases-add_item : goal.decreases-add_item
decreases-add_item l = 4 * l.levels + 3

abbrev pub decreases-add_node : goal.decreases-add_node
decreases-add_node l = 4 * l.levels + 2

abbrev pub decreases-add_bare : goal.decreases-add_bare
decreases-add_bare l = 4 * l.levels + 1

-- the items so far are added
abbrev pub invariant-add_items-loop-item : goal.invariant-add_items-loop-item
invariant-add_items-loop-item l =
    IsSame (load_lost l.lost)
    (both (load_lost l.fn.lost) (given_items l.levels (take l.item-index l.items)))
