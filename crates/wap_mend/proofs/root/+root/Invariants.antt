use Rattle.std.proofs.Common.{◌*◌, ◌+◌, take}
use Rattle.std.specs.List.{filter_map}
use Rattle.wap_tokens.specs.declared.markup.name.Tag.TheVariants as tags
use Rattle.wap_tokens.specs.markup.Trees.{node_with}
use Rattle.wap_mend.specs.inside.Frames.{given_items, Keeps}
use Rattle.wap_mend.specs.inside.Tops.{Gathers, load_top}
use Rattle.wap_mend.proofs.root.+root.Given as goal

abbrev pub decreases-put_items : goal.decreases-put_items
decreases-put_items l = 4 * l.levels + 4

abbrev pub decreases-put_item : goal.decreases-put_item
decreases-put_item l = 4 * l.levels + 3

abbrev pub decreases-put_node : goal.decreases-put_node
decreases-put_node l = 4 * l.levels + 2

abbrev pub decreases-put_element : goal.decreases-put_element
decreases-put_element l = 4 * l.levels + 1

-- the items so far are put there, or noted as lost
abbrev pub invariant-put_items-loop-number : goal.invariant-put_items-loop-number
invariant-put_items-loop-number l =
    Gathers l.initial.top l.top (filter_map (node_with tags.Card) (take l.number l.items))
    × Keeps l.initial.notes.changes l.notes.changes (load_top l.initial.top) (load_top l.top)
    (given_items l.levels (take l.number l.items))
