use Rattle.std.proofs.Common.{◌≡◌, ◌-◌, length}
use Rattle.wap_wbxml.specs.reading.BodyReading.{as_short, next_attribute, attributes_at}
use Rattle.wap_wbxml.specs.reading.Gathering.{read_as, gather_at}
use Rattle.wap_wbxml.specs.reading.Making.{attribute_added, attributes_made}
use Rattle.wap_wbxml.proofs.attributes.read_attributes.Given as goal

abbrev pub invariant-loop : goal.invariant-loop
invariant-loop g l =
    gather_at (attribute_added g.B.Builder.makes) (next_attribute l.input) (as_short l.input.total)
    (length l.bytes - l.counter) l.attributes l.state l.rest
    ≡ read_as (attributes_made g.B.Builder.makes)
    (attributes_at l.input l.initial.state l.bytes)
