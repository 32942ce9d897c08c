use Rattle.std.proofs.Common.{◌≡◌, ◌-◌, length}
use Rattle.wap_wbxml.specs.reading.BodyReading.{as_none, next_piece, pieces_at}
use Rattle.wap_wbxml.specs.reading.Gathering.{read_as, gather_at}
use Rattle.wap_wbxml.specs.reading.Making.{pieces_added}
use Rattle.wap_wbxml.proofs.attributes.add_pieces.Given as goal

abbrev pub invariant-loop : goal.invariant-loop
invariant-loop g l =
    gather_at g.B.Builder.makes.piece_added (next_piece l.input) as_none
    (length l.bytes - l.counter) l.attribute l.state l.rest
    ≡ read_as (pieces_added g.B.Builder.makes l.initial.attribute)
    (pieces_at l.input l.initial.state l.bytes)
