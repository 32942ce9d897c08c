use Rattle.std.proofs.Common.{◌≡◌, ◌-◌, length}
use Rattle.wap_wbxml.specs.reading.BodyReading.{as_none}
use Rattle.wap_wbxml.specs.reading.Gathering.{gather_at}
use Rattle.wap_wbxml.specs.reading.Making.{unit, passed, outers_passed}
use Rattle.wap_wbxml.specs.reading.Whole.{next_outer}
use Rattle.wap_wbxml.proofs.documents.pass_outers.Given as goal

abbrev pub invariant-loop : goal.invariant-loop
invariant-loop g l =
    gather_at passed (next_outer l.input) as_none (length l.bytes - l.counter) unit l.state l.rest
    ≡ outers_passed l.input l.initial.state l.bytes
