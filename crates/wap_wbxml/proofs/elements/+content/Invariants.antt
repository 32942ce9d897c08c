use Rattle.std.proofs.Common.{◌≡◌, ◌+◌, ◌-◌, ◌*◌, length}
use Rattle.wap_wbxml.specs.reading.BodyReading.{as_short, next_kid, kids_at, element_at}
use Rattle.wap_wbxml.specs.reading.Gathering.{read_as, gather_at}
use Rattle.wap_wbxml.specs.reading.Making.{kid_added, kids_added}
use Rattle.wap_wbxml.proofs.elements.+content.Given as goal

abbrev pub decreases-add_element : goal.decreases-add_element
decreases-add_element g l = 8 * l.levels

abbrev pub decreases-add_parts : goal.decreases-add_parts
decreases-add_parts g l = 8 * l.levels + 6

abbrev pub decreases-add_node : goal.decreases-add_node
decreases-add_node g l = 8 * l.levels + 5

abbrev pub decreases-read_node : goal.decreases-read_node
decreases-read_node g l = 8 * l.levels + 4

abbrev pub decreases-add_content : goal.decreases-add_content
decreases-add_content g l = 8 * l.levels + 3

abbrev pub decreases-read_content_when : goal.decreases-read_content_when
decreases-read_content_when g l = 8 * l.levels + 3

abbrev pub decreases-add_kids : goal.decreases-add_kids
decreases-add_kids g l = 8 * l.levels + 2

abbrev pub decreases-add_next_kid : goal.decreases-add_next_kid
decreases-add_next_kid g l = 8 * l.levels + 1

abbrev pub invariant-add_kids-loop : goal.invariant-add_kids-loop
invariant-add_kids-loop g l =
    gather_at (kid_added g.B.Builder.makes l.levels)
    (next_kid l.input (element_at l.input l.levels))
    (as_short l.input.total) (length l.bytes - l.counter) l.content l.state l.rest
    ≡ read_as (kids_added g.B.Builder.makes l.levels l.initial.content)
    (kids_at l.input (element_at l.input l.levels) l.initial.state l.bytes)
